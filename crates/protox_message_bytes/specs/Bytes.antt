-- The bytes of a message. Its fields stand in the order of their numbers, and those of one number in
-- the order in which they were told.
use Rattle.std.specs.Prelude.{ℕ, ◌==◌, nat_lt, Bool, false, ◌&&◌, List, [], ◌∷◌, ◌++◌, length, if◌then◌else◌}
use Rattle.std.specs.Int.{w32, w64, to_le_bytes}
use Rattle.std.specs.List.{flat_map}
use Rattle.protox_encode.specs.Wire.{header, varint}
use Rattle.protox_message_bytes.specs.Parts.{Parts, NoMore, Value, Message}
use Rattle.protox_setting_bytes.specs.Bytes.{around, value_bytes}
use Rattle.protox_values.specs.declared.setting.SettingValue.{SettingValue}
use Rattle.protox_values.specs.declared.setting.SettingValue.TheVariants as on_wire

-- A field on the wire. Of one that is packed the bytes are those of its values, without a header.
pub record Field : Type 0 where
  pub number : ℕ
  pub packed : Bool
  pub bytes : List ℕ

-- ---- the order

-- a field in front of others that are in order: behind those with smaller numbers
abbrev pub placed : Field → List Field → List Field
placed f [] = f ∷ []
placed f (g ∷ more) = if nat_lt g.number f.number then g ∷ placed f more else f ∷ g ∷ more

abbrev pub by_number : List Field → List Field
by_number [] = []
by_number (f ∷ more) = placed f (by_number more)

-- ---- packed fields

-- a field in front of others: what is packed joins the packed field of the same number
abbrev pub joined_to : Field → List Field → List Field
joined_to f [] = f ∷ []
joined_to f (g ∷ more) =
    if f.packed && g.packed && f.number == g.number then record f { bytes = f.bytes ++ g.bytes } ∷ more
    else f ∷ g ∷ more

abbrev pub joined : List Field → List Field
joined [] = []
joined (f ∷ more) = joined_to f (joined more)

-- ---- bytes

abbrev pub field_bytes : Field → List ℕ
field_bytes f = if f.packed then header f.number 2 ++ (varint (length f.bytes) ++ f.bytes) else f.bytes

-- the bytes of a message that holds these fields
abbrev pub in_order : List Field → List ℕ
in_order fields = flat_map field_bytes (joined (by_number fields))

-- a value without a header
abbrev pub bare_bytes : SettingValue → List ℕ
bare_bytes (on_wire.Varint n) = varint n
bare_bytes (on_wire.Eight n) = to_le_bytes w64 n
bare_bytes (on_wire.Bytes bytes) = varint (length bytes) ++ bytes
bare_bytes (on_wire.Four n) = to_le_bytes w32 n

abbrev pub value_field : ℕ → Bool → SettingValue → Field
value_field number packed value = record { number = number; packed = packed; bytes = if packed then bare_bytes value else value_bytes number value }

abbrev pub message_field : ℕ → Bool → List ℕ → Field
message_field number group inside = record { number = number; packed = false; bytes = around (record { number = number; is_group = group }) inside }

abbrev pub fields_of : Parts → List Field
fields_of NoMore = []
fields_of (Value number packed value more) = value_field number packed value ∷ fields_of more
fields_of (Message number group inside more) = message_field number group (in_order (fields_of inside)) ∷ fields_of more

-- The bytes of a message that holds these parts.
abbrev pub message_bytes : Parts → List ℕ
message_bytes parts = in_order (fields_of parts)
