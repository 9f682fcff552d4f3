use Rattle.std.proofs.Common.{ap, map, take, ◌∙◌}
use Rattle.std.proofs.lemmas.List.{take_min}
use Rattle.protox_brace_text.proofs.Naming.{map_take}
use Rattle.protox_brace_text.proofs.steps.before.Goals as goal
use Rattle.protox_text_format.specs.Spelling.{seen}

pub returns : goal.returns
returns c =
    ap (λ n. map seen (take n c.args.items.now)) c.min.ensures
    ∙ ap (map seen) (take_min c.args.step c.args.items.now)
    ∙ map_take seen c.args.step c.args.items.now
