use Rattle.protox_parse.proofs.translate.Translation.take_each.Goals as goal

pub loop-item-preserved : goal.loop-item-preserved
loop-item-preserved c end rest = c.loop-item.invariant end (rw (c.in-Some.ensures.steps.0) (c.take_one.new.self, c.in_ok-take_one.ensures, rest))
