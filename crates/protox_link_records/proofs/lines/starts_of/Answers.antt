use Rattle.std.proofs.Common.{arith}
use Rattle.protox_link_records.proofs.Starts.{starts-next}
use Rattle.protox_link_records.proofs.lines.starts_of.Goals as goal

pub loop-byte-preserved : goal.loop-byte-preserved
loop-byte-preserved c =
    let next = starts-next c.args.source.now c.loop-byte.byte-index c.loop-byte-test.true in
    let so_far = c.loop-byte.invariant in
    let pushed = c.in_ok-push_start.ensures in
    grind arith
