use Rattle.std.proofs.Common.{◌≡◌, ◌-◌, drop, length}
use Rattle.protox_ast.specs.Places.{placed}
use Rattle.protox_syntax.specs.inner.Recovery.{from_statement}
use Rattle.protox_syntax.proofs.recovery.from_statement.Given as goal

abbrev pub invariant-rows : goal.invariant-rows
invariant-rows l = from_statement (drop l.index (placed l.fn.table)) ≡ from_statement (drop l.fn.from (placed l.fn.table))

abbrev pub decreases-rows : goal.decreases-rows
decreases-rows l = length l.fn.table.rows - l.index
