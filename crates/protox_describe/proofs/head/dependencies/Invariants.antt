use Rattle.std.proofs.Common.{◌≡◌, map, take}
use Rattle.protox_ast.specs.declared.ast.Import.{Import}
use Rattle.protox_describe.proofs.head.dependencies.Given as goal

abbrev pub invariant-loop-statement : goal.invariant-loop-statement
invariant-loop-statement l = l.names.items ≡ map (λ (statement : Import). statement.value) (take l.statement-index l.imports)
