use Rattle.std.proofs.Common.{◌≡◌, map, take}
use Rattle.protox_alike.specs.Keys.{key_of_field}
use Rattle.protox_alike.proofs.fields.keys.Given as goal

abbrev pub invariant-loop-field : goal.invariant-loop-field
invariant-loop-field l = map (λ key. key.items) l.made.items ≡ map key_of_field (take l.field-index l.fields)
