-- The scalar types of fields, and what their fields hold.
use Rattle.std.specs.Prelude.{Option, Some, None}
use Rattle.protox_descriptor.specs.declared.descriptor.field_descriptor_proto.FieldType.{FieldType}
use Rattle.protox_descriptor.specs.declared.descriptor.field_descriptor_proto.FieldType.TheVariants as type
use Rattle.protox_values.specs.declared.types.Held.{Held}
use Rattle.protox_values.specs.declared.types.Held.TheVariants as held
use Rattle.protox_values.specs.declared.types.ScalarType.{ScalarType}
use Rattle.protox_values.specs.declared.types.ScalarType.TheVariants as kind

-- The scalar type that a field's type is, if it is one.
abbrev pub scalar_of : FieldType → Option ScalarType
scalar_of type.Double = Some kind.Double
scalar_of type.Float = Some kind.Float
scalar_of type.Int64 = Some kind.Int64
scalar_of type.Uint64 = Some kind.Uint64
scalar_of type.Int32 = Some kind.Int32
scalar_of type.Fixed64 = Some kind.Fixed64
scalar_of type.Fixed32 = Some kind.Fixed32
scalar_of type.Bool = Some kind.Bool
scalar_of type.String = Some kind.String
scalar_of type.Bytes = Some kind.Bytes
scalar_of type.Uint32 = Some kind.Uint32
scalar_of type.Sfixed32 = Some kind.Sfixed32
scalar_of type.Sfixed64 = Some kind.Sfixed64
scalar_of type.Sint32 = Some kind.Sint32
scalar_of type.Sint64 = Some kind.Sint64
scalar_of type.Group = None
scalar_of type.Message = None
scalar_of type.Enum = None

-- What the fields of a type hold.
abbrev pub held_by : ScalarType → Held
held_by kind.Int32 = held.Int32
held_by kind.Sint32 = held.Int32
held_by kind.Sfixed32 = held.Int32
held_by kind.Int64 = held.Int64
held_by kind.Sint64 = held.Int64
held_by kind.Sfixed64 = held.Int64
held_by kind.Uint32 = held.Uint32
held_by kind.Fixed32 = held.Uint32
held_by kind.Uint64 = held.Uint64
held_by kind.Fixed64 = held.Uint64
held_by kind.Float = held.Float
held_by kind.Double = held.Double
held_by kind.Bool = held.Bool
held_by kind.String = held.String
held_by kind.Bytes = held.String
