use Rattle.protox_ast.specs.Options.{without_first}
use Rattle.protox_checks.proofs.Left.{ToCome}
use Rattle.protox_checks.proofs.options.check_without.Given as goal

abbrev pub invariant-loop-index : goal.invariant-loop-index
invariant-loop-index l = ToCome (without_first l.name) l.bodies l.index l.initial.errors l.errors
