use Rattle.std.proofs.Common.{◌≡◌, map, take}
use Rattle.protox_alike.specs.Keys.{key_of_field}
use Rattle.protox_alike.specs.inner.Prints.{print_of}
use Rattle.protox_alike.proofs.fields.prints.Given as goal

abbrev pub invariant-loop-field : goal.invariant-loop-field
invariant-loop-field l = l.made.items ≡ map (λ field. print_of (key_of_field field)) (take l.field-index l.fields)
