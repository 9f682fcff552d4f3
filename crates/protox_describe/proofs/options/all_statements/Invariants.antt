use Rattle.std.proofs.Common.{◌≡◌, map, take}
use Rattle.protox_ast.specs.Options.{bodies_of, uninterpreted}
use Rattle.protox_describe.proofs.options.all_statements.Given as goal

abbrev pub invariant-loop-statement : goal.invariant-loop-statement
invariant-loop-statement l = l.options.items ≡ map uninterpreted (bodies_of (take l.statement-index l.ast))
