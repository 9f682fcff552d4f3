use Rattle.std.proofs.Common.{◌∙◌, ◌++◌, ap, sym, map-id, ℕ, List}
use Rattle.std.proofs.lemmas.Iterator.{YieldsList-from_chars}
use Rattle.std.proofs.lemmas.Iterator.Consumers.{YieldsList-end}
use Rattle.std.specs.List.{flat_map}
use Rattle.std.specs.String.{string_bytes}
use Rattle.protox_report.specs.Shown.{shown_character}
use Rattle.protox_report.proofs.shown.push_shown.Goals as goal

pub returns : goal.returns
returns c =
    let end = YieldsList-end (YieldsList-from_chars c.args.text.now c.utf8.text cc) c.loop-c.yielded _ c.loop-c.yielded_by _ _ c.in-None.is c.next.ensures.steps in
    c.loop-c.invariant ∙ ap (λ (cs : List ℕ). string_bytes c.args.out.now ++ flat_map shown_character cs) (sym (map-id c.loop-c.yielded) ∙ end.0)
