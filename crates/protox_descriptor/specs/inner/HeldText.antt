-- A text, held in the value itself or in a string.
use Rattle.std.specs.Prelude.{ℕ, ◌≡◌, ◌≤◌, List, take, length, IsUtf8}
use Rattle.std.specs.String.{string_bytes}
use Rattle.protox_descriptor.specs.declared.values.text.Held.{Held}
use Rattle.protox_descriptor.specs.declared.values.text.Held.TheVariants.{InPlace, InString}

-- The bytes of the text. Of the places in the value itself only the first `len` are taken.
abbrev pub text_held : Held → List ℕ
text_held (InPlace len bytes) = take len bytes
text_held (InString content) = string_bytes content

-- The value itself has 30 places. At most 30 are taken, and the bytes taken are UTF-8.
abbrev pub IsTextHeld : Held → Type 0
IsTextHeld (InPlace len bytes) = (len ≤ 30) × ((length bytes ≡ 30) × ∥ IsUtf8 (take len bytes) ∥₁)
IsTextHeld (InString content) = Unit {0}
