use Rattle.std.proofs.Common.{flat_map, take}
use Rattle.protox_checks.specs.inner.Walk.{Adds}
use Rattle.protox_checks.proofs.NodeLevels.{body_node}
use Rattle.protox_checks.proofs.options.check_bodies.Given as goal

abbrev pub invariant-loop-body : goal.invariant-loop-body
invariant-loop-body l = Adds l.initial.errors l.errors (flat_map body_node (take l.body-index l.bodies))
