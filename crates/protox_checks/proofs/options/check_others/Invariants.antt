use Rattle.protox_checks.specs.inner.Walk.{others}
use Rattle.protox_checks.proofs.Left.{ToCome}
use Rattle.protox_checks.proofs.options.check_others.Given as goal

abbrev pub invariant-loop-index : goal.invariant-loop-index
invariant-loop-index l = ToCome others l.bodies l.index l.initial.errors l.errors
