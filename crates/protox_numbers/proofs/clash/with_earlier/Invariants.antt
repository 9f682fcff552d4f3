use Rattle.std.proofs.Common.{◌≡◌, take}
use Rattle.protox_numbers.specs.Clashes.{with_earlier}
use Rattle.protox_numbers.proofs.clash.with_earlier.Given as goal

abbrev pub invariant-loop-part : goal.invariant-loop-part
invariant-loop-part l = l.made.items ≡ with_earlier (take l.part l.met)
