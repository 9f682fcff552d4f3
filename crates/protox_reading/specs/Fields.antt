-- What stands in a message, as a reader takes it from the bytes.
use Rattle.std.specs.Prelude.{◌≡◌, ℕ, ◌+◌, ◌*◌, ◌<◌, ◌≤◌, List, [], ◌∷◌, ◌++◌, length}
use Rattle.protox_encode.specs.Wire.{header, varint}

-- The bytes stand for the number. Each byte has seven of its bits, the first byte the lowest. All
-- bytes but the last have 128 added.
abbrev pub IsNumber : List ℕ → ℕ → Type 0
IsNumber [] n = ⊥
IsNumber (b ∷ []) n = (b < 128) × (n ≡ b)
IsNumber (b ∷ c ∷ more) n = (128 ≤ b) × (b < 256) × (high : ℕ) × (n + 128 ≡ b + 128 * high) × IsNumber (c ∷ more) high

-- What is on the wire for a field: a number; eight bytes; bytes behind their length; bytes between
-- the marks of a group; or four bytes.
pub data Payload : Type 0 where
  Number : ℕ → Payload
  Eight : List ℕ → Payload
  Bytes : List ℕ → Payload
  Group : List ℕ → Payload
  Four : List ℕ → Payload

-- These fields stand in the bytes, one behind the other, and nothing else. A field begins with a
-- header, which tells its number and a kind. The kind tells what stands behind the header. Between
-- the marks of a group stand fields.
pub data AreRead : List ℕ → List (ℕ × Payload) → Type 0 where
  NoField : AreRead [] []
  ANumber : (number n : ℕ) (rest : List ℕ) (more : List (ℕ × Payload)) → AreRead rest more
      → AreRead (header number 0 ++ (varint n ++ rest)) ((number, Number n) ∷ more)
  EightBytes : (number : ℕ) (bytes rest : List ℕ) (more : List (ℕ × Payload)) → length bytes ≡ 8 → AreRead rest more
      → AreRead (header number 1 ++ (bytes ++ rest)) ((number, Eight bytes) ∷ more)
  LongBytes : (number : ℕ) (bytes rest : List ℕ) (more : List (ℕ × Payload)) → AreRead rest more
      → AreRead (header number 2 ++ (varint (length bytes) ++ (bytes ++ rest))) ((number, Bytes bytes) ∷ more)
  AGroup : (number : ℕ) (inside rest : List ℕ) (fields more : List (ℕ × Payload)) → AreRead inside fields → AreRead rest more
      → AreRead (header number 3 ++ (inside ++ (header number 4 ++ rest))) ((number, Group inside) ∷ more)
  FourBytes : (number : ℕ) (bytes rest : List ℕ) (more : List (ℕ × Payload)) → length bytes ≡ 4 → AreRead rest more
      → AreRead (header number 5 ++ (bytes ++ rest)) ((number, Four bytes) ∷ more)
