use Rattle.protox_imports.specs.inner.Walk.{ArePlaced}
use Rattle.protox_imports.proofs.walk.next_import.Given as goal

abbrev pub invariant-loop-index : goal.invariant-loop-index
invariant-loop-index l = ArePlaced l.states l.named l.index
