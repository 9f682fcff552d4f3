use Rattle.std.proofs.Common.{◌≡◌, take}
use Rattle.protox_numbers.specs.Clashes.{with_first}
use Rattle.protox_numbers.proofs.clash.with_first.Given as goal

abbrev pub invariant-loop-part : goal.invariant-loop-part
invariant-loop-part l = l.made.items ≡ with_first (take l.part l.met)
