use Rattle.std.proofs.Common.{◌<◌, length, arith}
use Rattle.protox_locate.proofs.Numbered.{some_of}
use Rattle.protox_locate.proofs.ranges.number_names.Goals as goal

pub loop-statement-preserved : goal.loop-statement-preserved
loop-statement-preserved c =
    let lt : c.loop-statement.statement-index < length c.args.statements.now = omega arith in
    some_of _ _ _ _ _ _ _ _ c.args.statements.now _ _ _ c.loop-statement.invariant c.in_ok-next.ensures.siblings c.statement-item.is lt
