use Rattle.std.proofs.Common.{flat_map, take}
use Rattle.protox_checks.specs.inner.Walk.{Adds, number_node}
use Rattle.protox_checks.proofs.NodeLevels.{kind_nodes}
use Rattle.protox_checks.proofs.numbers.check_reserved.Given as goal

abbrev pub invariant-loop-statement : goal.invariant-loop-statement
invariant-loop-statement l = Adds l.initial.errors l.errors (flat_map (kind_nodes (number_node l.numbering)) (take l.statement-index l.statements))
