use Rattle.std.proofs.Common.{flat_map, take}
use Rattle.protox_checks.specs.Nodes.{extensions_nodes}
use Rattle.protox_checks.specs.inner.Walk.{Adds}
use Rattle.protox_checks.proofs.numbers.check_extensions.Given as goal

abbrev pub invariant-loop-statement : goal.invariant-loop-statement
invariant-loop-statement l = Adds l.initial.errors l.errors (flat_map extensions_nodes (take l.statement-index l.statements))
