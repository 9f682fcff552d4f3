use Rattle.std.proofs.Common.{◌≡◌, filter, take}
use Rattle.protox_alike.specs.Alike.{is_of_two}
use Rattle.protox_alike.proofs.values.values_alike.Given as goal

abbrev pub invariant-loop-clash : goal.invariant-loop-clash
invariant-loop-clash l = l.alike.items ≡ filter (is_of_two l.values) (take l.clash-index l.clash-items)
