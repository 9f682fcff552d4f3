-- Fields in the order of their numbers.
use Rattle.std.specs.Prelude.{◌≡◌, ◌<◌, ◌≤◌, ℕ, List, Some, slice_get}
use Rattle.protox_descriptor.specs.FieldDescriptorProto.{FieldDescriptorProto}
use Rattle.protox_numbers.specs.Numbers.{of_field}

-- The number of each is greater than those of all before it.
abbrev pub AreRising : List FieldDescriptorProto → Type 0
AreRising fields = (i j : ℕ) (earlier later : FieldDescriptorProto) → i < j → slice_get fields i ≡ Some earlier → slice_get fields j ≡ Some later → (of_field earlier).end ≤ (of_field later).start
