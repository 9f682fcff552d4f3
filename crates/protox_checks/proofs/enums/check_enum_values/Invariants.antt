use Rattle.std.proofs.Common.{flat_map, take}
use Rattle.protox_checks.specs.Nodes.{enum_value_nodes}
use Rattle.protox_checks.specs.inner.Walk.{Adds}
use Rattle.protox_checks.proofs.enums.check_enum_values.Given as goal

abbrev pub invariant-loop-value : goal.invariant-loop-value
invariant-loop-value l = Adds l.initial.errors l.errors (flat_map enum_value_nodes (take l.value-index l.values))
