use Rattle.std.proofs.Common.{flat_map, take}
use Rattle.protox_checks.specs.Nodes.{range_nodes}
use Rattle.protox_checks.specs.inner.Walk.{Adds, number_node}
use Rattle.protox_checks.proofs.numbers.check_ranges.Given as goal

abbrev pub invariant-loop-range : goal.invariant-loop-range
invariant-loop-range l = Adds l.initial.errors l.errors (flat_map (range_nodes (number_node l.numbering)) (take l.range-index l.ranges))
