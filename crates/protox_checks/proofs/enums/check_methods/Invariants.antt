use Rattle.std.proofs.Common.{flat_map, take}
use Rattle.protox_checks.specs.Nodes.{method_nodes}
use Rattle.protox_checks.specs.inner.Walk.{Adds}
use Rattle.protox_checks.proofs.enums.check_methods.Given as goal

abbrev pub invariant-loop-method : goal.invariant-loop-method
invariant-loop-method l = Adds l.initial.errors l.errors (flat_map method_nodes (take l.method-index l.methods))
