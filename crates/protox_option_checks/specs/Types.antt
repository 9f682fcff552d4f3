-- Types and labels of fields.
use Rattle.std.specs.Prelude.{Bool, Some}
use Rattle.std.specs.Option.{option_eq}
use Rattle.std.specs.Ordering.{int_eq}
use Rattle.protox_descriptor.specs.FieldDescriptorProto.{FieldDescriptorProto}
use Rattle.protox_descriptor.specs.FieldWords.{label_number, type_number}
use Rattle.protox_descriptor.specs.declared.descriptor.field_descriptor_proto.FieldType.{FieldType}
use Rattle.protox_descriptor.specs.declared.descriptor.field_descriptor_proto.Label.{Label}

abbrev pub has_type : FieldType → FieldDescriptorProto → Bool
has_type t field = option_eq int_eq field.field_type (Some (type_number t))

abbrev pub has_label : Label → FieldDescriptorProto → Bool
has_label l field = option_eq int_eq field.label (Some (label_number l))
