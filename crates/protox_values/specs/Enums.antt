-- What a statement says to a field whose type is an enum.
use Rattle.std.specs.Prelude.{◌≡◌, ℕ, ◌%◌, ◌^◌, ◌==◌, ℤ, pos, Bool, true, List, find, Option, Some, None, Result, Err, option_map, ok_or, unwrap_or}
use Rattle.std.specs.Option.{option_eq}
use Rattle.std.specs.Cmp.Lexicographic.{pointwise}
use Rattle.std.specs.Int.{w32, w64, cast_signed, cast_unsigned}
use Rattle.protox_descriptor.specs.declared.descriptor.EnumValueDescriptorProto.{EnumValueDescriptorProto}
use Rattle.protox_values.specs.Values.{fits_signed}
use Rattle.protox_values.specs.declared.fault.EnumFault.{EnumFault}
use Rattle.protox_values.specs.declared.fault.EnumFault.TheVariants.{NotIdentifier, NoSuchValue}
use Rattle.protox_values.specs.declared.setting.SettingValue.{SettingValue}
use Rattle.protox_values.specs.declared.setting.SettingValue.TheVariants as on_wire

-- Whether the value has this name.
abbrev pub is_named : List ℕ → EnumValueDescriptorProto → Bool
is_named name value = option_eq (pointwise ◌==◌) value.name (Some name)

-- An unset number counts as 0.
abbrev pub number_of : EnumValueDescriptorProto → ℤ
number_of value = unwrap_or value.number (pos 0)

-- The number of the first of the values that has the name of the statement's identifier, or why
-- there is none.
abbrev pub enum_says : List EnumValueDescriptorProto → Option (List ℕ) → Result ℤ EnumFault
enum_says values None = Err NotIdentifier
enum_says values (Some name) = ok_or (option_map number_of (find (is_named name) values)) NoSuchValue

-- The number of a value on the wire: the 64 bits of it.
abbrev pub number_wire : ℤ → SettingValue
number_wire n = on_wire.Varint (cast_unsigned w64 n)

-- What a reader of protobuf takes for the number: the lowest 32 bits, with the sign by the highest
-- of them.
abbrev pub enum_reading : SettingValue → Option ℤ
enum_reading (on_wire.Varint n) = Some (cast_signed w32 (n % 2 ^ 32))
enum_reading _ = None

-- Each number of a value is read back.
abbrev pub EnumsReadBack : Type 0
EnumsReadBack = (n : ℤ) → fits_signed (2 ^ 31) n ≡ true → enum_reading (number_wire n) ≡ Some n
