use Rattle.std.proofs.Common.{◌≡◌, take}
use Rattle.protox_describe.specs.Head.{is_public}
use Rattle.protox_describe.specs.Siblings.{places}
use Rattle.protox_describe.proofs.head.public_places.Given as goal

abbrev pub invariant-loop-place : goal.invariant-loop-place
invariant-loop-place l = l.found ≡ places is_public 0 (take l.place l.imports)
