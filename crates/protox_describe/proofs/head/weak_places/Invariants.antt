use Rattle.std.proofs.Common.{◌≡◌, take}
use Rattle.protox_describe.specs.Head.{is_weak}
use Rattle.protox_describe.specs.Siblings.{places}
use Rattle.protox_describe.proofs.head.weak_places.Given as goal

abbrev pub invariant-loop-place : goal.invariant-loop-place
invariant-loop-place l = l.found ≡ places is_weak 0 (take l.place l.imports)
