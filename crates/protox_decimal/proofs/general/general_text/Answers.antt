use Rattle.std.proofs.Common.{◌≡◌, ℕ, List, subst, sym, ◌∙◌}
use Rattle.std.specs.Result.{IfOk}
use Rattle.std.specs.String.{string_bytes}
use Rattle.protox_decimal.proofs.Same.{nan_text}
use Rattle.protox_decimal.proofs.general.general_text.Goals as goal

pub returns-then-is_nan : goal.returns-then-is_nan
returns-then-is_nan c =
    let e = nan_text c.args.precision c.args.x (sym c.is_nan.ensures.value ∙ c.if-is_nan.true) in
    subst (λ (z : List ℕ). IfOk c.from_str.result (λ t. string_bytes t ≡ z)) e c.from_str.ensures.ok
