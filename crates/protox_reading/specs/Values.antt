-- What a reader finds who knows which kind of values a field has.
use Rattle.std.specs.Prelude.{◌≡◌, ℕ, ◌==◌, Bool, false, List, [], ◌∷◌, ◌++◌, length, if◌then◌else◌}
use Rattle.protox_encode.specs.Wire.{varint}
use Rattle.protox_message_bytes.specs.Parts.{Parts, NoMore, Value, Message}
use Rattle.protox_reading.specs.Fields.{Payload, Number, Eight, Bytes, Four}
use Rattle.protox_reading.specs.Finding.{Finds}
use Rattle.protox_reading.specs.Said.{payload_of}
use Rattle.protox_values.specs.declared.setting.SettingValue.{SettingValue}
use Rattle.protox_values.specs.declared.setting.SettingValue.TheVariants as on_wire

-- ---- what is read

-- Numbers; values of eight bytes; values of four; texts, or bytes that mean something else.
pub data Kind : Type 0 where
  Numbers Eights Fours Texts : Kind

-- These values are packed in the bytes, one behind the other, and nothing else.
pub data ArePacked : Kind → List ℕ → List Payload → Type 0 where
  NoneLeft : (kind : Kind) → ArePacked kind [] []
  NextNumber : (n : ℕ) (rest : List ℕ) (more : List Payload) → ArePacked Numbers rest more → ArePacked Numbers (varint n ++ rest) (Number n ∷ more)
  NextEight : (bytes rest : List ℕ) (more : List Payload) → length bytes ≡ 8 → ArePacked Eights rest more → ArePacked Eights (bytes ++ rest) (Eight bytes ∷ more)
  NextFour : (bytes rest : List ℕ) (more : List Payload) → length bytes ≡ 4 → ArePacked Fours rest more → ArePacked Fours (bytes ++ rest) (Four bytes ∷ more)

-- A reader takes these values of a kind from the payload of a field. Bytes are one text, or packed
-- values of the other kinds. A payload of another kind is passed over.
abbrev pub AreIn : Kind → Payload → List Payload → Type 0
AreIn Numbers (Number n) values = values ≡ Number n ∷ []
AreIn Eights (Eight bytes) values = values ≡ Eight bytes ∷ []
AreIn Fours (Four bytes) values = values ≡ Four bytes ∷ []
AreIn Texts (Bytes bytes) values = values ≡ Bytes bytes ∷ []
AreIn kind (Bytes bytes) values = ArePacked kind bytes values
AreIn kind payload values = values ≡ []

-- He takes these from the payloads of several fields.
abbrev pub AreTaken : Kind → List Payload → List Payload → Type 0
AreTaken kind [] values = values ≡ []
AreTaken kind (payload ∷ more) values =
    (these : List Payload) × (those : List Payload) × AreIn kind payload these × AreTaken kind more those × (values ≡ these ++ those)

-- Who reads the bytes of a message finds these values of a kind at a path.
abbrev pub FindsValues : Kind → List ℕ → List ℕ → List Payload → Type 0
FindsValues kind bytes path values = (found : List Payload) × Finds bytes path found × AreTaken kind found values

-- ---- what is said

-- The values that the parts of a message say at a path, in the order of the parts. It makes no
-- difference whether they are packed.
abbrev pub values_at : List ℕ → Parts → List Payload
values_at [] parts = []
values_at (number ∷ []) NoMore = []
values_at (number ∷ []) (Value k packed value more) = (if k == number then payload_of value ∷ [] else []) ++ values_at (number ∷ []) more
values_at (number ∷ []) (Message k group inside more) = values_at (number ∷ []) more
values_at (number ∷ next ∷ path) NoMore = []
values_at (number ∷ next ∷ path) (Value k packed value more) = values_at (number ∷ next ∷ path) more
values_at (number ∷ next ∷ path) (Message k group inside more) =
    (if k == number then values_at (next ∷ path) inside else []) ++ values_at (number ∷ next ∷ path) more

-- The value is of a kind. A text is never packed.
abbrev pub IsOf : Kind → Bool → SettingValue → Type 0
IsOf Numbers packed (on_wire.Varint n) = Unit {0}
IsOf Eights packed (on_wire.Eight n) = Unit {0}
IsOf Fours packed (on_wire.Four n) = Unit {0}
IsOf Texts packed (on_wire.Bytes bytes) = packed ≡ false
IsOf kind packed value = ⊥

-- The path goes through messages alone, and all that is said at its end is values of the kind.
abbrev pub LeadsTo : Kind → List ℕ → Parts → Type 0
LeadsTo kind [] parts = Unit {0}
LeadsTo kind (number ∷ []) NoMore = Unit {0}
LeadsTo kind (number ∷ []) (Value k packed value more) = (k ≡ number → IsOf kind packed value) × LeadsTo kind (number ∷ []) more
LeadsTo kind (number ∷ []) (Message k group inside more) = (k ≡ number → ⊥) × LeadsTo kind (number ∷ []) more
LeadsTo kind (number ∷ next ∷ path) NoMore = Unit {0}
LeadsTo kind (number ∷ next ∷ path) (Value k packed value more) = (k ≡ number → ⊥) × LeadsTo kind (number ∷ next ∷ path) more
LeadsTo kind (number ∷ next ∷ path) (Message k group inside more) =
    (k ≡ number → LeadsTo kind (next ∷ path) inside) × LeadsTo kind (number ∷ next ∷ path) more
