-- The type of a field in descriptor.proto.
use Rattle.std.specs.Prelude.{ℕ, List, Option, Some, None}
use Rattle.protox_ast.specs.declared.ast.Ty.{Ty}
use Rattle.protox_ast.specs.declared.ast.Ty.TheVariants as ty
use Rattle.protox_ast.specs.Names.{type_name_text}
use Rattle.protox_descriptor.specs.declared.descriptor.field_descriptor_proto.FieldType.{FieldType}
use Rattle.protox_descriptor.specs.declared.descriptor.field_descriptor_proto.FieldType.TheVariants as field_type

-- The scalar type of a field. None for a named type.
abbrev pub scalar_type : Ty → Option FieldType
scalar_type ty.Double = Some field_type.Double
scalar_type ty.Float = Some field_type.Float
scalar_type ty.Int32 = Some field_type.Int32
scalar_type ty.Int64 = Some field_type.Int64
scalar_type ty.Uint32 = Some field_type.Uint32
scalar_type ty.Uint64 = Some field_type.Uint64
scalar_type ty.Sint32 = Some field_type.Sint32
scalar_type ty.Sint64 = Some field_type.Sint64
scalar_type ty.Fixed32 = Some field_type.Fixed32
scalar_type ty.Fixed64 = Some field_type.Fixed64
scalar_type ty.Sfixed32 = Some field_type.Sfixed32
scalar_type ty.Sfixed64 = Some field_type.Sfixed64
scalar_type ty.Bool = Some field_type.Bool
scalar_type ty.String = Some field_type.String
scalar_type ty.Bytes = Some field_type.Bytes
scalar_type (ty.Named name) = None

-- The name of a named type. None for a scalar type.
abbrev pub named_type : Ty → Option (List ℕ)
named_type (ty.Named name) = Some (type_name_text name)
named_type _ = None
