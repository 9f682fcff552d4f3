use Rattle.std.proofs.Common.{◌∙◌, Some, ap, sym, arith}
use Rattle.std.proofs.lemmas.Option.{slice_get-get_or}
use Rattle.protox_imports.proofs.Steps.{passed_visited}
use Rattle.protox_imports.proofs.walk.Walk.visit.Goals as goal

pub returns-in_default : goal.returns-in_default
returns-in_default c =
    let states = c.args.self.now.states.items in
    let count = c.requires.walk.count in
    let below = c.requires.within in
    passed_visited c.args.imports.now.files states c.args.self.now.stack.items
    c.args.self.now.placed.items c.args.root c.index.result.now c.requires.walk c.requires.ends
    (slice_get-get_or states c.args.root c.index.result.now (omega (arith, count, below))
    ∙ ap Some (sym c.index.ensures))
    c.in_default.not-New
