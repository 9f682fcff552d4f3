-- A list of numbers, held in the value itself or in a vector.
use Rattle.std.specs.Prelude.{ℤ, ◌≡◌, ◌≤◌, List, take, length}
use Rattle.protox_descriptor.specs.declared.values.numbers.Held.{Held}
use Rattle.protox_descriptor.specs.declared.values.numbers.Held.TheVariants.{InPlace, InVector}

-- The numbers of the list. Of the places in the value itself only the first `len` are taken.
abbrev pub numbers_held : Held → List ℤ
numbers_held (InPlace len numbers) = take len numbers
numbers_held (InVector numbers) = numbers.items

-- The value itself has seven places, and at most seven are taken.
abbrev pub IsWithin : Held → Type 0
IsWithin (InPlace len numbers) = (len ≤ 7) × (length numbers ≡ 7)
IsWithin (InVector numbers) = Unit {0}
