-- What the statement of an option sets.
use Rattle.std.specs.Prelude.{ℕ, ℤ, Bool, List, [], ◌∷◌, Option, Some, None, Result, Ok, Err, find, is_some, if◌then◌else◌}
use Rattle.std.specs.Option.{option_and_then}
use Rattle.std.specs.Ordering.{int_eq}
use Rattle.protox_descriptor.specs.FieldDescriptorProto.{FieldDescriptorProto}
use Rattle.protox_descriptor.specs.FieldWords.{type_number}
use Rattle.protox_descriptor.specs.declared.descriptor.FileDescriptorProto.{FileDescriptorProto}
use Rattle.protox_descriptor.specs.declared.descriptor.field_descriptor_proto.FieldType.{FieldType}
use Rattle.protox_descriptor.specs.declared.descriptor.field_descriptor_proto.FieldType.TheVariants as type
use Rattle.protox_descriptor.specs.declared.descriptor.options.UninterpretedOption.{UninterpretedOption}
use Rattle.protox_settings.specs.Fields.{message_of_type, values_named}
use Rattle.protox_settings.specs.declared.fault.SettingFault.{SettingFault}
use Rattle.protox_settings.specs.declared.fault.SettingFault.TheVariants as fault
use Rattle.protox_settings.specs.declared.setting.Said.{Said}
use Rattle.protox_settings.specs.declared.setting.Said.TheVariants as said
use Rattle.protox_symbols.specs.Symbols.{Table}
use Rattle.protox_values.specs.Enums.{enum_says, number_wire}
use Rattle.protox_values.specs.Types.{scalar_of}
use Rattle.protox_values.specs.Values.{Value, says}
use Rattle.protox_values.specs.Wire.{wire}
use Rattle.protox_values.specs.declared.fault.EnumFault.{EnumFault}
use Rattle.protox_values.specs.declared.fault.ValueFault.{ValueFault}
use Rattle.protox_values.specs.declared.types.ScalarType.{ScalarType}

-- all types of fields
abbrev pub types : List FieldType
types =
    type.Double ∷ type.Float ∷ type.Int64 ∷ type.Uint64 ∷ type.Int32 ∷ type.Fixed64 ∷ type.Fixed32
    ∷ type.Bool ∷ type.String ∷ type.Group ∷ type.Message ∷ type.Bytes ∷ type.Uint32 ∷ type.Enum
    ∷ type.Sfixed32 ∷ type.Sfixed64 ∷ type.Sint32 ∷ type.Sint64 ∷ []

-- the type with a number
unfoldable pub type_numbered : ℤ → Option FieldType
type_numbered n = find (λ t. int_eq (type_number t) n) types

-- ---- by the type of the field

-- what a statement says to a field of a scalar type, on the wire
abbrev pub scalar_said : ScalarType → Result Value ValueFault → Result Said SettingFault
scalar_said scalar (Ok value) = Ok (said.Value (wire scalar value))
scalar_said scalar (Err wrong) = Err (fault.WrongValue scalar wrong)

-- what it says to a field of an enum
abbrev pub enum_said : Result ℤ EnumFault → Result Said SettingFault
enum_said (Ok n) = Ok (said.Value (number_wire n))
enum_said (Err wrong) = Err (fault.WrongEnum wrong)

-- What it says to a field whose type is a message: a text in braces, to be read as this message.
abbrev pub message_said : Bool → Option ℕ → Result Said SettingFault
message_said in_braces None = Err fault.Untyped
message_said in_braces (Some message) = if in_braces then Ok (said.Aggregate message) else Err fault.NotInBraces

module _ (files : List FileDescriptorProto) (table : Table) (field : FieldDescriptorProto) (statement : UninterpretedOption) where
  abbrev pub compound_said : FieldType → Result Said SettingFault
  compound_said type.Enum = enum_said (enum_says (values_named files table field.type_name) statement.identifier_value)
  compound_said type.Message = message_said (is_some statement.aggregate_value) (message_of_type table field)
  compound_said type.Group = message_said (is_some statement.aggregate_value) (message_of_type table field)
  compound_said _ = Err fault.Untyped

  abbrev pub said_by : FieldType → Option ScalarType → Result Said SettingFault
  said_by field_type (Some scalar) = scalar_said scalar (says scalar statement)
  said_by field_type None = compound_said field_type

  abbrev pub said_of_type : Option FieldType → Result Said SettingFault
  said_of_type None = Err fault.Untyped
  said_of_type (Some field_type) = said_by field_type (scalar_of field_type)

  -- What the statement says to the field. In linked files each field has a type.
  abbrev pub field_said : Result Said SettingFault
  field_said = said_of_type (option_and_then type_numbered field.field_type)
