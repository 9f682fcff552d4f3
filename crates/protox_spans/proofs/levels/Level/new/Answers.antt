use Rattle.protox_spans.proofs.Filling.{level_more}
use Rattle.protox_spans.proofs.levels.Level.new.Goals as goal

pub loop-rest-preserved : goal.loop-rest-preserved
loop-rest-preserved c =
    let more = level_more c.loop-rest.blocks.items c.push.new.self.items c.args.width c.args.spans.now
    c.loop-rest.rest.now c.split_at.result.0.now c.split_at.result.1.now c.in_ok-new.field-0 c.min.result
    c.in_ok-push.ensures.items c.loop-rest.invariant.rest c.min.ensures
    c.split_at.ensures.front c.split_at.ensures.back c.in_ok-new.ensures c.loop-rest.invariant.fit in
    record { rest = more.0; fit = more.1 }
