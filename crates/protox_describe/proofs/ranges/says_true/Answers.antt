use Rattle.std.proofs.Common.{Bool, false, Some, None, ap, sym, ◌∙◌}
use Rattle.protox_describe.proofs.ranges.says_true.Goals as goal

pub returns-in-None : goal.returns-in-None
returns-in-None c =
    ap (λ o. elim o as (λ _. Bool) [ None ↦ false | Some truth ↦ truth ]) (sym c.in-None.is ∙ c.as_bool.ensures)

pub returns-in-Some : goal.returns-in-Some
returns-in-Some c =
    ap (λ o. elim o as (λ _. Bool) [ None ↦ false | Some truth ↦ truth ]) (sym c.in-Some.is ∙ c.as_bool.ensures)
