use Rattle.std.proofs.Common.{Some, take, length, not, sym, ap, ◌∙◌, arith}
use Rattle.std.proofs.lemmas.List.{take_all}
use Rattle.protox_set_paths.proofs.Places.{decided_at, decided_by_place}
use Rattle.protox_set_paths.proofs.Stepping.{as_many}
use Rattle.protox_set_paths.proofs.tree.SetTree.has.Goals as goal

pub returns-in-None : goal.returns-in-None
returns-in-None c =
    decided_at c.args.self.now c.args.path.now c.loop-number.number-index (omega arith)
    (c.in-None.ensures.set (take c.loop-number.number-index c.args.path.now) c.loop-number.invariant)

pub returns : goal.returns
returns c =
    ap not c.is_empty.ensures
    ∙ decided_by_place c.args.self.now c.loop-number.place c.args.path.now _
    (c.self.inside.steps.ok.0 ∙ sym (as_many c.self.inside.steps.items) ∙ ap length c.self.view_is)
    (c.loop-number.invariant ∙ ap (λ p. Some p) (take_all c.loop-number.number-index c.args.path.now (omega arith)))
