-- The descriptor of an enum.
use Rattle.std.specs.Prelude.{map, Some}
use Rattle.protox_ast.specs.declared.ast.Enum.{Enum}
use Rattle.protox_ast.specs.declared.ast.EnumValue.{EnumValue}
use Rattle.protox_descriptor.specs.declared.descriptor.EnumDescriptorProto.{EnumDescriptorProto}
use Rattle.protox_descriptor.specs.declared.descriptor.EnumValueDescriptorProto.{EnumValueDescriptorProto}
use Rattle.protox_ast.specs.Options.{bodies_of, listed, options_message}
use Rattle.protox_ast.specs.Ranges.{enum_number, enum_reserved_range, reserved_ranges, reserved_texts}

-- the descriptor of an enum value
abbrev pub enum_value_proto : EnumValue → EnumValueDescriptorProto
enum_value_proto value = record {
  name = Some value.name.value;
  number = enum_number value.number;
  options = options_message (λ options. record { uninterpreted_option = options }) (listed value.options);
}

-- the descriptor of an enum
abbrev pub enum_proto : Enum → EnumDescriptorProto
enum_proto enum = record {
  name = Some enum.name.value;
  value = map enum_value_proto enum.values;
  options = options_message (λ options. record { uninterpreted_option = options }) (bodies_of enum.options);
  reserved_range = map enum_reserved_range (reserved_ranges enum.reserved);
  reserved_name = reserved_texts enum.reserved;
}
