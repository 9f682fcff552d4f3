use Rattle.protox_syntax.proofs.taking.TakesItems.take_all.Goals as goal

pub loop-item-preserved : goal.loop-item-preserved
loop-item-preserved g c end rest = c.loop-item.invariant end (rw (c.in-Some.ensures.steps.0) (c.take.new.self, c.in_ok-take.ensures, rest))
