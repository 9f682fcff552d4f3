use Rattle.std.proofs.Common.{arith}
use Rattle.protox_spans.proofs.Filling.{levels_more, levels_end}
use Rattle.protox_spans.proofs.levels.levels.Goals as goal

pub loop-width-preserved : goal.loop-width-preserved
loop-width-preserved c =
    let more = levels_more c.loop-width.made.items c.push.new.self.items c.args.spans.now
    c.in_ok-new.field-0 c.loop-width.width c.in_ok-push.ensures.items c.loop-width.invariant.width
    c.loop-width.invariant.each c.in_ok-new.ensures in
    record { width = more.0; some = omega (arith, c.loop-width.invariant.some); each = more.1 }

pub returns : goal.returns
returns c =
    levels_end c.loop-width.made.items c.push-2.new.self.items c.args.spans.now
    c.in_ok-new-2.field-0 c.loop-width.width c.in_ok-push-2.ensures.items c.loop-width.invariant.width
    c.loop-width.invariant.each c.in_ok-new-2.ensures c.loop-width-test.false
