-- The numbers of fields, and the numbers of labels and types in descriptor.proto.
use Rattle.std.specs.Prelude.{Bool, not, ◌&&◌, nat_lt, if◌then◌else◌, Option, Some, None, ℤ, pos}
use Rattle.protox_fault.specs.Faults.{Span}
use Rattle.protox_ast.specs.declared.ast.FieldLabel.{FieldLabel}
use Rattle.protox_ast.specs.declared.ast.FieldLabel.TheVariants as label
use Rattle.protox_ast.specs.declared.ast.Int.{Int}
use Rattle.protox_descriptor.specs.declared.descriptor.field_descriptor_proto.FieldType.{FieldType}
use Rattle.protox_descriptor.specs.declared.descriptor.field_descriptor_proto.FieldType.TheVariants as field_type

-- Whether the number is one from 1 to 536870911.
abbrev pub in_message_range : Int → Bool
in_message_range int = not int.negative && (nat_lt 0 int.value && nat_lt int.value 536870912)

-- The number of a field, if it is in that range.
abbrev pub number_of : Int → Option ℤ
number_of int = if in_message_range int then Some (pos int.value) else None

-- The number of a label in descriptor.proto. A field without a label is optional.
abbrev pub label_number : Option (FieldLabel × Span) → ℤ
label_number None = pos 1
label_number (Some (label.Optional, span)) = pos 1
label_number (Some (label.Required, span)) = pos 2
label_number (Some (label.Repeated, span)) = pos 3

-- The number of a type in descriptor.proto.
abbrev pub type_number : FieldType → ℤ
type_number field_type.Double = pos 1
type_number field_type.Float = pos 2
type_number field_type.Int64 = pos 3
type_number field_type.Uint64 = pos 4
type_number field_type.Int32 = pos 5
type_number field_type.Fixed64 = pos 6
type_number field_type.Fixed32 = pos 7
type_number field_type.Bool = pos 8
type_number field_type.String = pos 9
type_number field_type.Group = pos 10
type_number field_type.Message = pos 11
type_number field_type.Bytes = pos 12
type_number field_type.Uint32 = pos 13
type_number field_type.Enum = pos 14
type_number field_type.Sfixed32 = pos 15
type_number field_type.Sfixed64 = pos 16
type_number field_type.Sint32 = pos 17
type_number field_type.Sint64 = pos 18

-- The number of a field's type. A named type has none, since it is known only by its name.
abbrev pub scalar_number : Option FieldType → Option ℤ
scalar_number None = None
scalar_number (Some type) = Some (type_number type)
