-- The numbers of labels and types in descriptor.proto, and their words in a source.
use Rattle.std.specs.Prelude.{ℕ, ℤ, pos, List, codes}
use Rattle.protox_descriptor.specs.declared.descriptor.field_descriptor_proto.Label.{Label}
use Rattle.protox_descriptor.specs.declared.descriptor.field_descriptor_proto.Label.TheVariants.{Optional, Required, Repeated}
use Rattle.protox_descriptor.specs.declared.descriptor.field_descriptor_proto.FieldType.{FieldType}
use Rattle.protox_descriptor.specs.declared.descriptor.field_descriptor_proto.FieldType.TheVariants as type

-- The number of a label in descriptor.proto.
abbrev pub label_number : Label → ℤ
label_number Optional = pos 1
label_number Required = pos 2
label_number Repeated = pos 3

-- The word of a label in a source.
abbrev pub label_word : Label → List ℕ
label_word Optional = codes "optional"
label_word Required = codes "required"
label_word Repeated = codes "repeated"

-- The number of a type in descriptor.proto.
abbrev pub type_number : FieldType → ℤ
type_number type.Double = pos 1
type_number type.Float = pos 2
type_number type.Int64 = pos 3
type_number type.Uint64 = pos 4
type_number type.Int32 = pos 5
type_number type.Fixed64 = pos 6
type_number type.Fixed32 = pos 7
type_number type.Bool = pos 8
type_number type.String = pos 9
type_number type.Group = pos 10
type_number type.Message = pos 11
type_number type.Bytes = pos 12
type_number type.Uint32 = pos 13
type_number type.Enum = pos 14
type_number type.Sfixed32 = pos 15
type_number type.Sfixed64 = pos 16
type_number type.Sint32 = pos 17
type_number type.Sint64 = pos 18

-- The word of a type in a source. A type that no word of a source names (message, enum) gets its
-- name in descriptor.proto, in small letters.
abbrev pub type_word : FieldType → List ℕ
type_word type.Double = codes "double"
type_word type.Float = codes "float"
type_word type.Int64 = codes "int64"
type_word type.Uint64 = codes "uint64"
type_word type.Int32 = codes "int32"
type_word type.Fixed64 = codes "fixed64"
type_word type.Fixed32 = codes "fixed32"
type_word type.Bool = codes "bool"
type_word type.String = codes "string"
type_word type.Group = codes "group"
type_word type.Message = codes "message"
type_word type.Bytes = codes "bytes"
type_word type.Uint32 = codes "uint32"
type_word type.Enum = codes "enum"
type_word type.Sfixed32 = codes "sfixed32"
type_word type.Sfixed64 = codes "sfixed64"
type_word type.Sint32 = codes "sint32"
type_word type.Sint64 = codes "sint64"
