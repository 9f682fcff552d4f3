use Rattle.std.proofs.Common.{◌≡◌, map, take}
use Rattle.protox_alike.specs.Keys.{value_key}
use Rattle.protox_alike.specs.inner.Prints.{print_of}
use Rattle.protox_alike.proofs.values.prints.Given as goal

abbrev pub invariant-loop-value : goal.invariant-loop-value
invariant-loop-value l = l.made.items ≡ map (λ value. print_of (value_key l.prefix value)) (take l.value-index l.values)
