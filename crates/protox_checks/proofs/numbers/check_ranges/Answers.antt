use Rattle.std.proofs.Common.{arith, refl}
use Rattle.protox_checks.specs.Nodes.{range_nodes}
use Rattle.protox_checks.specs.inner.Walk.{number_node}
use Rattle.protox_checks.proofs.Adding.{all, more-at}
use Rattle.protox_checks.proofs.numbers.check_ranges.Goals as goal

pub loop-range-preserved : goal.loop-range-preserved
loop-range-preserved c =
    more-at (range_nodes (number_node c.args.numbering)) c.args.ranges.now c.loop-range.range-index _ _ _ _ (omega arith) c.loop-range.invariant c.in_ok-check_range.ensures

pub returns : goal.returns
returns c = all (range_nodes (number_node c.args.numbering)) c.args.ranges.now c.args.ranges.now c.loop-range.range-index _ _ (omega arith) refl c.loop-range.invariant
