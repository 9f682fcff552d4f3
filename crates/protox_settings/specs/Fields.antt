-- Fields of files, by the numbers that they have in the table of what the files declare.
use Rattle.std.specs.Prelude.{ℕ, ◌==◌, ℤ, pos, negsuc, Bool, ◌||◌, List, [], ◌∷◌, Option, Some, None, drop, slice_get, if◌then◌else◌}
use Rattle.std.specs.Option.{option_and_then, option_eq}
use Rattle.std.specs.Ordering.{int_eq}
use Rattle.protox_descriptor.specs.FieldDescriptorProto.{FieldDescriptorProto}
use Rattle.protox_descriptor.specs.FieldWords.{label_number, type_number}
use Rattle.protox_descriptor.specs.declared.descriptor.DescriptorProto.{DescriptorProto, out-DescriptorProto}
use Rattle.protox_descriptor.specs.declared.descriptor.EnumDescriptorProto.{EnumDescriptorProto}
use Rattle.protox_descriptor.specs.declared.descriptor.EnumValueDescriptorProto.{EnumValueDescriptorProto}
use Rattle.protox_descriptor.specs.declared.descriptor.FileDescriptorProto.{FileDescriptorProto}
use Rattle.protox_descriptor.specs.declared.descriptor.field_descriptor_proto.FieldType.TheVariants as type
use Rattle.protox_descriptor.specs.declared.descriptor.field_descriptor_proto.Label.TheVariants as label
use Rattle.protox_descriptor.specs.declared.tag.file.TheConstants as file_tag
use Rattle.protox_descriptor.specs.declared.tag.message.TheConstants as message_tag
use Rattle.protox_name_tree.specs.Tree.{name_at, number_of}
use Rattle.protox_names.specs.Names.{is_absolute, within}
use Rattle.protox_symbols.specs.Symbols.{Table}
use Rattle.protox_walk.specs.Declarations.{Path, text_of}

-- ---- where a path leads

-- the part with an index, if there is one
abbrev pub part_at : {A : Type 0} → List A → ℤ → Option A
part_at parts (pos n) = slice_get parts n
part_at parts (negsuc n) = None

-- a field of the message, or an extension in it, where the path ends with it
abbrev pub own_field : DescriptorProto → ℤ → ℤ → Path → Option FieldDescriptorProto
own_field m tag n [] =
    if int_eq tag message_tag.FIELD then part_at (out-DescriptorProto m).field n
    else if int_eq tag message_tag.EXTENSION then part_at (out-DescriptorProto m).extension n
    else None
own_field m tag n (next ∷ rest) = None

-- the field to which a path leads from a message
abbrev pub field_in : DescriptorProto → Path → Option FieldDescriptorProto
field_in m [] = None
field_in m (tag ∷ []) = None
field_in m (tag ∷ n ∷ rest) =
    if int_eq tag message_tag.NESTED_TYPE then option_and_then (λ inner. field_in inner rest) (part_at (out-DescriptorProto m).nested_type n)
    else own_field m tag n rest

-- an extension of the file, where the path ends with it
abbrev pub file_extension : FileDescriptorProto → ℤ → ℤ → Path → Option FieldDescriptorProto
file_extension file tag n [] = if int_eq tag file_tag.EXTENSION then part_at file.extension n else None
file_extension file tag n (next ∷ rest) = None

-- the field to which a path leads from a file
abbrev pub field_at : FileDescriptorProto → Path → Option FieldDescriptorProto
field_at file [] = None
field_at file (tag ∷ []) = None
field_at file (tag ∷ n ∷ rest) =
    if int_eq tag file_tag.MESSAGE_TYPE then option_and_then (λ m. field_in m rest) (part_at file.message_type n)
    else file_extension file tag n rest

-- ---- messages

-- the message to which a path leads from a message: itself, where nothing is left of the path
abbrev pub message_in : DescriptorProto → Path → Option DescriptorProto
message_in m [] = Some m
message_in m (tag ∷ []) = None
message_in m (tag ∷ n ∷ rest) =
    if int_eq tag message_tag.NESTED_TYPE then option_and_then (λ inner. message_in inner rest) (part_at (out-DescriptorProto m).nested_type n)
    else None

-- the message to which a path leads from a file
abbrev pub message_at : FileDescriptorProto → Path → Option DescriptorProto
message_at file [] = None
message_at file (tag ∷ []) = None
message_at file (tag ∷ n ∷ rest) =
    if int_eq tag file_tag.MESSAGE_TYPE then option_and_then (λ m. message_in m rest) (part_at file.message_type n)
    else None

-- ---- numbers

-- the message that has a number
abbrev pub message_numbered : List FileDescriptorProto → Table → ℕ → Option DescriptorProto
message_numbered files table n = option_and_then (λ thing. option_and_then (λ file. message_at file thing.path) (slice_get files thing.file)) (slice_get table.things n)

-- the field, or the extension, that has a number
abbrev pub field_numbered : List FileDescriptorProto → Table → ℕ → Option FieldDescriptorProto
field_numbered files table n = option_and_then (λ thing. option_and_then (λ file. field_at file thing.path) (slice_get files thing.file)) (slice_get table.things n)

-- In linked files names are full names behind a dot. The number of what such a name stands for:
abbrev pub named : Table → List ℕ → Option ℕ
named table name = if is_absolute name then number_of table.names (drop 1 name) else None

abbrev pub is_same : Option ℕ → ℕ → Bool
is_same found n = option_eq ◌==◌ found (Some n)

-- A field is one of the message: it extends it, or its name is found in it.
abbrev pub is_of_from : Table → ℕ → ℕ → Option (List ℕ) → Option (List ℕ) → Bool
is_of_from table message n name (Some extendee) = is_same (named table extendee) message
is_of_from table message n name None = is_same (number_of table.names (within (name_at table.names message) (text_of name))) n

abbrev pub is_of : Table → ℕ → ℕ → FieldDescriptorProto → Bool
is_of table message n field = is_of_from table message n field.name field.extendee

-- ---- types

-- whether it is the type of a message or of a group
abbrev pub has_message : Option ℤ → Bool
has_message field_type =
    option_eq int_eq field_type (Some (type_number type.Message)) || option_eq int_eq field_type (Some (type_number type.Group))

-- the message that is the type of a field, in linked files
abbrev pub message_of_type : Table → FieldDescriptorProto → Option ℕ
message_of_type table field =
    if has_message field.field_type then option_and_then (named table) field.type_name
    else None

abbrev pub is_repeated : FieldDescriptorProto → Bool
is_repeated field = option_eq int_eq field.label (Some (label_number label.Repeated))

-- ---- enums

-- an enum of the message, where the path ends with it
abbrev pub own_enum : DescriptorProto → ℤ → ℤ → Path → Option EnumDescriptorProto
own_enum m tag n [] = if int_eq tag message_tag.ENUM_TYPE then part_at (out-DescriptorProto m).enum_type n else None
own_enum m tag n (next ∷ rest) = None

-- the enum to which a path leads from a message
abbrev pub enum_in : DescriptorProto → Path → Option EnumDescriptorProto
enum_in m [] = None
enum_in m (tag ∷ []) = None
enum_in m (tag ∷ n ∷ rest) =
    if int_eq tag message_tag.NESTED_TYPE then option_and_then (λ inner. enum_in inner rest) (part_at (out-DescriptorProto m).nested_type n)
    else own_enum m tag n rest

abbrev pub file_enum : FileDescriptorProto → ℤ → ℤ → Path → Option EnumDescriptorProto
file_enum file tag n [] = if int_eq tag file_tag.ENUM_TYPE then part_at file.enum_type n else None
file_enum file tag n (next ∷ rest) = None

-- the enum to which a path leads from a file
abbrev pub enum_at : FileDescriptorProto → Path → Option EnumDescriptorProto
enum_at file [] = None
enum_at file (tag ∷ []) = None
enum_at file (tag ∷ n ∷ rest) =
    if int_eq tag file_tag.MESSAGE_TYPE then option_and_then (λ m. enum_in m rest) (part_at file.message_type n)
    else file_enum file tag n rest

-- the enum that has a number
abbrev pub enum_numbered : List FileDescriptorProto → Table → ℕ → Option EnumDescriptorProto
enum_numbered files table n = option_and_then (λ thing. option_and_then (λ file. enum_at file thing.path) (slice_get files thing.file)) (slice_get table.things n)

-- the values of the enum with this name behind a dot; none if there is no such enum
abbrev pub values_of : Option EnumDescriptorProto → List EnumValueDescriptorProto
values_of None = []
values_of (Some enum) = enum.value

abbrev pub values_named : List FileDescriptorProto → Table → Option (List ℕ) → List EnumValueDescriptorProto
values_named files table name = values_of (option_and_then (enum_numbered files table) (option_and_then (named table) name))
