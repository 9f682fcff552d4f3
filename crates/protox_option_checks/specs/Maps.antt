-- What is wrong with the values of a map.
use Rattle.std.specs.Prelude.{Bool, false, not, ◌&&◌, List, codes, nat_eq, slice_get}
use Rattle.std.specs.List.{ends_with}
use Rattle.std.specs.Option.{option_and_then, option_map_or, unwrap_or}
use Rattle.protox_descriptor.specs.FieldDescriptorProto.{FieldDescriptorProto}
use Rattle.protox_descriptor.specs.declared.descriptor.DescriptorProto.{DescriptorProto, out-DescriptorProto}
use Rattle.protox_descriptor.specs.declared.descriptor.EnumDescriptorProto.{EnumDescriptorProto}
use Rattle.protox_descriptor.specs.declared.descriptor.FileDescriptorProto.{FileDescriptorProto}
use Rattle.protox_descriptor.specs.declared.descriptor.field_descriptor_proto.FieldType.TheVariants as type
use Rattle.protox_descriptor.specs.declared.descriptor.field_descriptor_proto.Label.TheVariants as label
use Rattle.protox_descriptor.specs.declared.descriptor.options.MessageOptions.{MessageOptions}
use Rattle.protox_numbers.specs.Enums.{begins_with_zero}
use Rattle.protox_option_checks.specs.Types.{has_label, has_type}
use Rattle.protox_settings.specs.Fields.{enum_numbered, message_numbered, named}
use Rattle.protox_symbols.specs.Symbols.{Table}

-- The message is the entry of a map.
abbrev pub is_map_entry : DescriptorProto → Bool
is_map_entry message =
    option_map_or (λ (o : MessageOptions). unwrap_or o.map_entry false) (out-DescriptorProto message).options false

-- The field of a map is repeated, and the name of its type ends with this word.
abbrev pub may_be_map : FieldDescriptorProto → Bool
may_be_map field =
    (has_label label.Repeated field && has_type type.Message field)
    && option_map_or (λ name. ends_with nat_eq name (codes "Entry")) field.type_name false

module _ (files : List FileDescriptorProto) (table : Table) where
  -- Its type is an enum that doesn't begin with 0.
  abbrev pub has_late_enum : FieldDescriptorProto → Bool
  has_late_enum field =
      has_type type.Enum field
      && option_map_or (λ (enum : EnumDescriptorProto). not (begins_with_zero enum)) (option_and_then (enum_numbered files table) (option_and_then (named table) field.type_name)) false

  -- So is the value of the entry, its second field.
  abbrev pub is_late_entry : DescriptorProto → Bool
  is_late_entry message = is_map_entry message && option_map_or has_late_enum (slice_get (out-DescriptorProto message).field 1) false

  -- The field is that of a map, the values of which are of such an enum.
  abbrev pub has_late_values : FieldDescriptorProto → Bool
  has_late_values field =
      may_be_map field
      && option_map_or is_late_entry (option_and_then (message_numbered files table) (option_and_then (named table) field.type_name)) false
