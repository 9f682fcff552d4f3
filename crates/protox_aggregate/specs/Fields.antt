-- What is told of the fields of messages in linked files.
use Rattle.std.specs.Prelude.{ℕ, ◌==◌, pos, Bool, true, false, not, ◌&&◌, List, [], ◌∷◌, Option, Some, None, bytes_eq, codes, is_some, option_map, slice_get, if◌then◌else◌}
use Rattle.std.specs.Int.{w32, cast_unsigned}
use Rattle.std.specs.Option.{option_and_then, option_eq, option_map_or, option_or, unwrap_or}
use Rattle.std.specs.Ordering.{int_eq}
use Rattle.protox_descriptor.specs.FieldDescriptorProto.{FieldDescriptorProto}
use Rattle.protox_descriptor.specs.FieldWords.{type_number}
use Rattle.protox_descriptor.specs.declared.descriptor.FileDescriptorProto.{FileDescriptorProto}
use Rattle.protox_descriptor.specs.declared.descriptor.field_descriptor_proto.FieldType.{FieldType}
use Rattle.protox_descriptor.specs.declared.descriptor.field_descriptor_proto.FieldType.TheVariants as type
use Rattle.protox_descriptor.specs.declared.descriptor.options.UninterpretedOption.{UninterpretedOption}
use Rattle.protox_descriptor.specs.declared.descriptor.uninterpreted_option.NamePart.{NamePart}
use Rattle.protox_settings.specs.Fields.{is_repeated}
use Rattle.protox_symbols.specs.Symbols.{Table}
use Rattle.protox_values.specs.declared.setting.SettingValue.{SettingValue}
use Rattle.protox_values.specs.declared.setting.SettingValue.TheVariants as on_wire

abbrev pub has_type : FieldType → FieldDescriptorProto → Bool
has_type t field = option_eq int_eq field.field_type (Some (type_number t))

abbrev pub is_group : FieldDescriptorProto → Bool
is_group field = has_type type.Group field

-- the number of a field, as it stands in front of its values
abbrev pub wire_number : FieldDescriptorProto → ℕ
wire_number field = cast_unsigned w32 (unwrap_or field.number (pos 0))

-- ---- proto3

abbrev pub is_proto3 : FileDescriptorProto → Bool
is_proto3 file = option_map_or (λ syntax. bytes_eq syntax (codes "proto3")) file.syntax false

-- whether what has a number in the table is declared in a file of proto3
abbrev pub is_in_proto3 : List FileDescriptorProto → Table → ℕ → Bool
is_in_proto3 files table n = option_map_or is_proto3 (option_and_then (λ thing. slice_get files thing.file) (slice_get table.things n)) false

-- ---- packed fields

-- Values of the type can be packed: they are numbers or truth values.
abbrev pub can_pack : FieldDescriptorProto → Bool
can_pack field =
    is_some field.field_type && not (has_type type.String field) && not (has_type type.Bytes field) && not (has_type type.Message field)
    && not (has_type type.Group field)

abbrev pub is_packed_name : List NamePart → Bool
is_packed_name (part ∷ []) = not part.is_extension && bytes_eq part.name_part (codes "packed")
is_packed_name _ = false

-- what a statement says of the option `packed`, if it sets that
abbrev pub packed_by : UninterpretedOption → Option Bool
packed_by statement =
    if is_packed_name statement.name then option_map (λ word. bytes_eq word (codes "true")) statement.identifier_value
    else None

-- what the first statement says that sets it
abbrev pub packed_among : List UninterpretedOption → Option Bool
packed_among [] = None
packed_among (statement ∷ more) = option_or (packed_by statement) (packed_among more)

-- Whether the values of a field stand behind one header. In proto3 they do if no statement says no.
abbrev pub is_packed : Bool → FieldDescriptorProto → Bool
is_packed in_proto3 field =
    is_repeated field && can_pack field
    && unwrap_or (option_and_then (λ options. packed_among options.uninterpreted_option) field.options) in_proto3

-- ---- values that set nothing

-- The field isn't set by 0, `false` or an empty text: in proto3 it is so, but where the field is
-- optional, repeated, an extension, or one of a oneof.
abbrev pub is_implicit : Bool → FieldDescriptorProto → Bool
is_implicit in_proto3 field =
    in_proto3 && not (is_repeated field) && not (is_some field.oneof_index) && not (is_some field.extendee)

abbrev pub is_zero : SettingValue → Bool
is_zero (on_wire.Varint n) = n == 0
is_zero (on_wire.Four n) = n == 0
is_zero (on_wire.Eight n) = n == 0
is_zero (on_wire.Bytes []) = true
is_zero (on_wire.Bytes (byte ∷ more)) = false
