use Rattle.std.proofs.Common.{flat_map, take}
use Rattle.protox_checks.specs.inner.Walk.{Adds}
use Rattle.protox_checks.proofs.NodeLevels.{statement_node}
use Rattle.protox_checks.proofs.options.check_statements.Given as goal

abbrev pub invariant-loop-statement : goal.invariant-loop-statement
invariant-loop-statement l = Adds l.initial.errors l.errors (flat_map statement_node (take l.statement-index l.statements))
