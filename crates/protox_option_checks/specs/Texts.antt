-- What is wrong, in protoc's words.
use Rattle.std.specs.Prelude.{ℕ, List, [], ◌++◌, Option, Some, None, codes, slice_get}
use Rattle.std.specs.Option.{option_and_then}
use Rattle.protox_descriptor.specs.declared.descriptor.FileDescriptorProto.{FileDescriptorProto}
use Rattle.protox_name_tree.specs.Tree.{name_at}
use Rattle.protox_option_checks.specs.declared.fault.CheckFaultKind.{CheckFaultKind}
use Rattle.protox_option_checks.specs.declared.fault.CheckFaultKind.TheVariants.{ClosedEnum, ExtensionJsonName, JsType, Lazy, LiteExtension, LiteImport, LiteService, MapValueEnum, MessageSetExtension, MessageSetField, MessageSetInProto3, Packed, SharedNumber}
use Rattle.protox_symbols.specs.Symbols.{Table}
use Rattle.protox_walk.specs.Declarations.{text_of}

-- the full name with a number; the empty one where there is none
abbrev pub name_of : Table → Option ℕ → List ℕ
name_of table None = []
name_of table (Some n) = name_at table.names n

-- the name of the file with a number
abbrev pub file_name : List FileDescriptorProto → ℕ → List ℕ
file_name files n = text_of (option_and_then (λ file. file.name) (slice_get files n))

-- ---- texts with names in them

abbrev pub closed_enum_words : List ℕ → List ℕ → List ℕ
closed_enum_words enum message =
    codes "Enum type \"" ++ enum ++ codes "\" is not a proto3 enum, but is used in \"" ++ message ++ codes "\" which is a proto3 message type."

abbrev pub closed_enum_text : Table → ℕ → Option ℕ → List ℕ
closed_enum_text table n message = closed_enum_words (name_at table.names n) (name_of table message)

abbrev pub shared_number_words : List ℕ → List ℕ → List ℕ
shared_number_words value earlier =
    codes "\"" ++ value ++ codes "\" uses the same enum value as \"" ++ earlier ++ codes "\". If this is intended, set 'option allow_alias = true;' to the enum definition."

abbrev pub shared_number_text : Table → Option ℕ → Option ℕ → List ℕ
shared_number_text table value earlier = shared_number_words (name_of table value) (name_of table earlier)

abbrev pub lite_import_text : List ℕ → List ℕ
lite_import_text name =
    codes "Files that do not use optimize_for = LITE_RUNTIME cannot import files which do use this option.  This file is not lite, but it imports \"" ++ name ++ codes "\" which is."

-- ---- all texts

-- The text of what is always told in the same words.
abbrev pub fixed_text : CheckFaultKind → List ℕ
fixed_text Lazy = codes "[lazy = true] can only be specified for submessage fields."
fixed_text Packed = codes "[packed = true] can only be specified for repeated primitive fields."
fixed_text MessageSetField = codes "MessageSets cannot have fields, only extensions."
fixed_text MessageSetExtension = codes "Extensions of MessageSets must be optional messages."
fixed_text LiteExtension = codes "Extensions to non-lite types can only be declared in non-lite files.  Note that you cannot extend a non-lite type to contain a lite type, but the reverse is allowed."
fixed_text MapValueEnum = codes "Enum value in map must define 0 as the first value."
fixed_text JsType = codes "jstype is only allowed on int64, uint64, sint64, fixed64 or sfixed64 fields."
fixed_text ExtensionJsonName = codes "option json_name is not allowed on extension fields."
fixed_text MessageSetInProto3 = codes "MessageSet is not supported in proto3."
fixed_text LiteService = codes "Files with optimize_for = LITE_RUNTIME cannot define services unless you set both options cc_generic_services and java_generic_services to false."
fixed_text (ClosedEnum n message) = []
fixed_text (SharedNumber value earlier) = []
fixed_text (LiteImport file) = []

abbrev pub check_text : Table → List FileDescriptorProto → CheckFaultKind → List ℕ
check_text table files (ClosedEnum n message) = closed_enum_text table n message
check_text table files (SharedNumber value earlier) = shared_number_text table value earlier
check_text table files (LiteImport file) = lite_import_text (file_name files file)
check_text table files Lazy = fixed_text Lazy
check_text table files Packed = fixed_text Packed
check_text table files MessageSetField = fixed_text MessageSetField
check_text table files MessageSetExtension = fixed_text MessageSetExtension
check_text table files LiteExtension = fixed_text LiteExtension
check_text table files MapValueEnum = fixed_text MapValueEnum
check_text table files JsType = fixed_text JsType
check_text table files ExtensionJsonName = fixed_text ExtensionJsonName
check_text table files MessageSetInProto3 = fixed_text MessageSetInProto3
check_text table files LiteService = fixed_text LiteService
