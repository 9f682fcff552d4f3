-- The parts that most fields lack. Only a field that has some of them holds room for
-- them.
use Rattle.std.specs.Prelude.{None}
use Rattle.protox_descriptor.specs.FieldDescriptorProto.{FieldDescriptorProto}
use Rattle.protox_descriptor.specs.declared.descriptor.field.RareParts.{RareParts}
use Rattle.protox_descriptor.specs.declared.descriptor.field.Rest.{Rest}
use Rattle.protox_descriptor.specs.declared.descriptor.field.Rest.TheVariants.{Plain, Rare}
use Rattle.protox_descriptor.specs.declared.descriptor.field.FieldDescriptorProto.TheInside.{Inside}

-- The rare parts of a field. A field without a box has only those about its oneof.
abbrev pub rare_parts : Rest → RareParts
rare_parts (Plain in_oneof) = record { in_oneof = in_oneof; extendee = None; default_value = None; json_name = None; options = None }
rare_parts (Rare parts) = parts.value

-- A field as contracts see it.
abbrev pub field_of : Inside → FieldDescriptorProto
field_of f = record {
  name = f.name;
  number = f.number;
  label = f.label;
  field_type = f.field_type;
  type_name = f.type_name;
  extendee = (rare_parts f.rest).extendee;
  default_value = (rare_parts f.rest).default_value;
  oneof_index = (rare_parts f.rest).in_oneof.index;
  json_name = (rare_parts f.rest).json_name;
  options = (rare_parts f.rest).options;
  proto3_optional = (rare_parts f.rest).in_oneof.proto3_optional;
}
