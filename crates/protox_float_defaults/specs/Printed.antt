-- The defaults of floats, as protoc prints them.
use Rattle.std.specs.Prelude.{ℕ, ℤ, List, map, Option, Some, None, option_map, if◌then◌else◌}
use Rattle.std.specs.Float.{binary32, binary64, round_to_format}
use Rattle.std.specs.Option.{option_eq, unwrap_or}
use Rattle.std.specs.Ordering.{int_eq}
use Rattle.fast_float.specs.Parse.{parse_float}
use Rattle.protox_decimal.specs.Texts.{double_text, float_text}
use Rattle.protox_descriptor.specs.FieldDescriptorProto.{FieldDescriptorProto}
use Rattle.protox_descriptor.specs.FieldWords.{type_number}
use Rattle.protox_descriptor.specs.declared.descriptor.DescriptorProto.{DescriptorProto, roll-DescriptorProto}
use Rattle.protox_descriptor.specs.declared.descriptor.DescriptorProto.TheFolds.{fold-DescriptorProto}
use Rattle.protox_descriptor.specs.declared.descriptor.DescriptorProto.TheOpen.{DescriptorProto-F}
use Rattle.protox_descriptor.specs.declared.descriptor.FileDescriptorProto.{FileDescriptorProto}
use Rattle.protox_descriptor.specs.declared.descriptor.field_descriptor_proto.FieldType.TheVariants as type

-- ---- texts

-- the text of a float of 64 bits, printed anew; none if it is no float
abbrev pub new_double : List ℕ → Option (List ℕ)
new_double text = option_map double_text (parse_float binary64 text)

-- the text of a float of 32 bits, printed anew: that of 64 bits is narrowed
abbrev pub new_float : List ℕ → Option (List ℕ)
new_float text = option_map (λ x. float_text (round_to_format binary32 x)) (parse_float binary64 text)

-- the text of a default by the type of its field; none if it stays
abbrev pub new_text : Option ℤ → List ℕ → Option (List ℕ)
new_text field_type text =
    if option_eq int_eq field_type (Some (type_number type.Double)) then new_double text
    else if option_eq int_eq field_type (Some (type_number type.Float)) then new_float text
    else None

abbrev pub printed_text : Option ℤ → List ℕ → List ℕ
printed_text field_type text = unwrap_or (new_text field_type text) text

-- ---- what has defaults

-- A field, or an extension.
abbrev pub with_new_default : FieldDescriptorProto → FieldDescriptorProto
with_new_default field = record field { default_value = option_map (printed_text field.field_type) field.default_value }

abbrev pub message_step : DescriptorProto-F DescriptorProto → DescriptorProto
message_step m = roll-DescriptorProto (record {
  name = m.name;
  field = map with_new_default m.field;
  extension = map with_new_default m.extension;
  nested_type = m.nested_type;
  enum_type = m.enum_type;
  extension_range = m.extension_range;
  oneof_decl = m.oneof_decl;
  options = m.options;
  reserved_range = m.reserved_range;
  reserved_name = m.reserved_name;
})

-- A message with the defaults of its fields and extensions printed anew, and of those in it.
abbrev pub printed_message : DescriptorProto → DescriptorProto
printed_message message = fold-DescriptorProto DescriptorProto message_step message

abbrev pub printed_file : FileDescriptorProto → FileDescriptorProto
printed_file file = record file {
  message_type = map printed_message file.message_type;
  extension = map with_new_default file.extension;
}
