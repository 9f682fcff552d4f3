-- What a value in text format says to a field.
use Rattle.std.specs.Prelude.{ℤ, Bool, List, Option, Some, None, Result, Ok, Err}
use Rattle.std.specs.Option.{option_and_then}
use Rattle.protox_aggregate.specs.declared.fault.AggregateFaultKind.{AggregateFaultKind}
use Rattle.protox_aggregate.specs.declared.fault.AggregateFaultKind.TheVariants as kind
use Rattle.protox_descriptor.specs.FieldDescriptorProto.{FieldDescriptorProto}
use Rattle.protox_descriptor.specs.declared.descriptor.FileDescriptorProto.{FileDescriptorProto}
use Rattle.protox_descriptor.specs.declared.descriptor.field_descriptor_proto.FieldType.{FieldType}
use Rattle.protox_descriptor.specs.declared.descriptor.field_descriptor_proto.FieldType.TheVariants as type
use Rattle.protox_lexeme.specs.Shapes.{Shape}
use Rattle.protox_settings.specs.Fields.{values_named}
use Rattle.protox_settings.specs.Settings.{type_numbered}
use Rattle.protox_symbols.specs.Symbols.{Table}
use Rattle.protox_text_values.specs.Enums.{enum_says_in_text}
use Rattle.protox_text_values.specs.Scalars.{says_in_text}
use Rattle.protox_text_values.specs.declared.fault.TextEnumFault.{TextEnumFault}
use Rattle.protox_values.specs.Enums.{number_wire}
use Rattle.protox_values.specs.Types.{scalar_of}
use Rattle.protox_values.specs.Values.{Value}
use Rattle.protox_values.specs.Wire.{wire}
use Rattle.protox_values.specs.declared.fault.ValueFault.{ValueFault}
use Rattle.protox_values.specs.declared.setting.SettingValue.{SettingValue}
use Rattle.protox_values.specs.declared.types.ScalarType.{ScalarType}

abbrev pub scalar_said : ScalarType → Result Value ValueFault → Result SettingValue AggregateFaultKind
scalar_said scalar (Ok value) = Ok (wire scalar value)
scalar_said scalar (Err wrong) = Err (kind.WrongValue scalar wrong)

abbrev pub enum_said : Result ℤ TextEnumFault → Result SettingValue AggregateFaultKind
enum_said (Ok n) = Ok (number_wire n)
enum_said (Err wrong) = Err (kind.WrongEnum wrong)

-- An open enum takes numbers that no value has.
module _ (files : List FileDescriptorProto) (table : Table) (field : FieldDescriptorProto) (is_open : Bool) (shapes : List Shape) where
  abbrev pub compound_said : FieldType → Result SettingValue AggregateFaultKind
  compound_said type.Enum = enum_said (enum_says_in_text is_open (values_named files table field.type_name) shapes)
  compound_said _ = Err kind.NotMessage

  abbrev pub said_by : FieldType → Option ScalarType → Result SettingValue AggregateFaultKind
  said_by field_type (Some scalar) = scalar_said scalar (says_in_text scalar shapes)
  said_by field_type None = compound_said field_type

  abbrev pub said_of_type : Option FieldType → Result SettingValue AggregateFaultKind
  said_of_type None = Err kind.Untyped
  said_of_type (Some field_type) = said_by field_type (scalar_of field_type)

  -- What a value that is no message says to the field, on the wire.
  abbrev pub value_said : Result SettingValue AggregateFaultKind
  value_said = said_of_type (option_and_then type_numbered field.field_type)
