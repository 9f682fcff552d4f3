use Rattle.std.proofs.Common.{◌≡◌, map, take}
use Rattle.protox_alike.specs.Keys.{value_key}
use Rattle.protox_alike.proofs.values.keys.Given as goal

abbrev pub invariant-loop-value : goal.invariant-loop-value
invariant-loop-value l = map (λ key. key.items) l.made.items ≡ map (value_key l.prefix) (take l.value-index l.values)
