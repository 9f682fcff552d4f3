-- What the parts of a message say at a path: the payloads that a reader is to find there.
use Rattle.std.specs.Prelude.{◌≡◌, ℕ, ◌==◌, Bool, List, [], ◌∷◌, ◌++◌, map, if◌then◌else◌}
use Rattle.std.specs.Int.{w32, w64, to_le_bytes}
use Rattle.protox_message_bytes.specs.Bytes.{bare_bytes, message_bytes}
use Rattle.protox_message_bytes.specs.Parts.{Parts, NoMore, Value, Message}
use Rattle.protox_reading.specs.Fields.{Payload, Number, Eight, Bytes, Group, Four}
use Rattle.protox_values.specs.declared.setting.SettingValue.{SettingValue}
use Rattle.protox_values.specs.declared.setting.SettingValue.TheVariants as on_wire

-- ---- fields

-- What is told of a field: the bytes of one of the values of a packed field; or the payload of a
-- field that stands alone.
pub data Told : Type 0 where
  Packed : List ℕ → Told
  Alone : Payload → Told

-- a value as it stands on the wire
abbrev pub payload_of : SettingValue → Payload
payload_of (on_wire.Varint n) = Number n
payload_of (on_wire.Eight n) = Eight (to_le_bytes w64 n)
payload_of (on_wire.Bytes bytes) = Bytes bytes
payload_of (on_wire.Four n) = Four (to_le_bytes w32 n)

abbrev pub told_value : Bool → SettingValue → Told
told_value packed value = if packed then Packed (bare_bytes value) else Alone (payload_of value)

abbrev pub told_message : Bool → List ℕ → Told
told_message group inside = Alone (if group then Group inside else Bytes inside)

-- what each part tells, with the number of its field; of a message its bytes
abbrev pub all_told : Parts → List (ℕ × Told)
all_told NoMore = []
all_told (Value number packed value more) = (number, told_value packed value) ∷ all_told more
all_told (Message number group inside more) = (number, told_message group (message_bytes inside)) ∷ all_told more

-- what is told of the field with a number
abbrev pub those : ℕ → List (ℕ × Told) → List Told
those number [] = []
those number ((k, told) ∷ more) = if k == number then told ∷ those number more else those number more

-- Values of a packed field that are told one behind the other stand in one field.
abbrev pub joined_to : Told → List Told → List Told
joined_to (Packed these) (Packed those ∷ more) = Packed (these ++ those) ∷ more
joined_to told more = told ∷ more

abbrev pub joined : List Told → List Told
joined [] = []
joined (told ∷ more) = joined_to told (joined more)

abbrev pub shown : Told → Payload
shown (Packed bytes) = Bytes bytes
shown (Alone payload) = payload

-- ---- paths

-- What the parts of a message say at a path. If the path is one number, it is what they tell of the
-- field with that number, in their order. If the path goes on, it is what the parts of the messages
-- with the number say at the rest of the path, one message behind the other.
abbrev pub said_at : List ℕ → Parts → List Payload
said_at [] parts = []
said_at (number ∷ []) parts = map shown (joined (those number (all_told parts)))
said_at (number ∷ next ∷ path) NoMore = []
said_at (number ∷ next ∷ path) (Value k packed value more) = said_at (number ∷ next ∷ path) more
said_at (number ∷ next ∷ path) (Message k group inside more) =
    (if k == number then said_at (next ∷ path) inside else []) ++ said_at (number ∷ next ∷ path) more

-- The path goes through messages alone: behind the number of a value it doesn't go on.
abbrev pub GoesThrough : List ℕ → Parts → Type 0
GoesThrough [] parts = Unit {0}
GoesThrough (number ∷ []) parts = Unit {0}
GoesThrough (number ∷ next ∷ path) NoMore = Unit {0}
GoesThrough (number ∷ next ∷ path) (Value k packed value more) = (k ≡ number → ⊥) × GoesThrough (number ∷ next ∷ path) more
GoesThrough (number ∷ next ∷ path) (Message k group inside more) =
    (k ≡ number → GoesThrough (next ∷ path) inside) × GoesThrough (number ∷ next ∷ path) more
