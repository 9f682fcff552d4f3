-- What is wrong with a field or an extension.
use Rattle.std.specs.Prelude.{ℕ, ℤ, Bool, false, not, ◌&&◌, ◌||◌, List, [], ◌++◌, Option, Some, None, bytes_eq, codes, option_map, slice_get, if◌then◌else◌}
use Rattle.std.specs.Option.{option_and_then, option_map_or}
use Rattle.protox_descriptor.specs.FieldDescriptorProto.{FieldDescriptorProto}
use Rattle.protox_descriptor.specs.declared.descriptor.FileDescriptorProto.{FileDescriptorProto}
use Rattle.protox_descriptor.specs.declared.descriptor.field_descriptor_proto.FieldType.TheVariants as type
use Rattle.protox_descriptor.specs.declared.descriptor.field_descriptor_proto.Label.TheVariants as label
use Rattle.protox_descriptor.specs.declared.descriptor.options.FieldOptions.{FieldOptions}
use Rattle.protox_descriptor.specs.declared.descriptor.options.UninterpretedOption.{UninterpretedOption}
use Rattle.protox_descriptor.specs.declared.tag.field.TheConstants as field_tag
use Rattle.protox_names.specs.Cases.{json_name}
use Rattle.protox_option_checks.specs.Faults.{fault_at, fault_if}
use Rattle.protox_option_checks.specs.Maps.{has_late_values}
use Rattle.protox_option_checks.specs.Marks.{Marks, is_marked}
use Rattle.protox_option_checks.specs.Names.{message_of}
use Rattle.protox_option_checks.specs.Statements.{is_true, says}
use Rattle.protox_option_checks.specs.Types.{has_label, has_type}
use Rattle.protox_option_checks.specs.declared.fault.CheckFault.{CheckFault}
use Rattle.protox_option_checks.specs.declared.fault.CheckFaultKind.TheVariants.{ClosedEnum, ExtensionJsonName, JsType, Lazy, LiteExtension, MapValueEnum, MessageSetExtension, Packed}
use Rattle.protox_settings.specs.Fields.{named}
use Rattle.protox_symbols.specs.Symbols.{Table}
use Rattle.protox_walk.specs.Declarations.{Path, text_of}
use Rattle.protox_walk.specs.Words.{options_in}

abbrev pub statements_of_field : FieldDescriptorProto → List UninterpretedOption
statements_of_field field = options_in (λ (o : FieldOptions). o.uninterpreted_option) field.options

-- where a type with this name stands: at the name, if it has one
abbrev pub name_tag : Option (List ℕ) → ℤ
name_tag None = field_tag.TYPE
name_tag (Some name) = field_tag.TYPE_NAME

-- Where the type of a field stands. That of a group stands at the word `group`.
abbrev pub type_tag : FieldDescriptorProto → ℤ
type_tag field = if has_type type.Group field then field_tag.TYPE else name_tag field.type_name

-- ---- options of the field itself

-- Only a message is read late. A group is none.
abbrev pub is_wrongly_lazy : FieldDescriptorProto → Bool
is_wrongly_lazy field =
    (is_true (statements_of_field field) (codes "lazy") || is_true (statements_of_field field) (codes "unverified_lazy"))
    && not (has_type type.Message field)

-- Many numbers are packed, and no texts, bytes, messages or groups.
abbrev pub may_be_packed : FieldDescriptorProto → Bool
may_be_packed field =
    has_label label.Repeated field
    && not ((has_type type.String field || has_type type.Bytes field) || (has_type type.Message field || has_type type.Group field))

abbrev pub is_wrongly_packed : FieldDescriptorProto → Bool
is_wrongly_packed field = is_true (statements_of_field field) (codes "packed") && not (may_be_packed field)

-- An integer of 64 bits may be another type in JavaScript.
abbrev pub may_have_js_type : FieldDescriptorProto → Bool
may_have_js_type field =
    (has_type type.Int64 field || has_type type.Uint64 field)
    || (has_type type.Sint64 field || (has_type type.Fixed64 field || has_type type.Sfixed64 field))

abbrev pub has_wrong_js_type : FieldDescriptorProto → Bool
has_wrong_js_type field =
    (says (statements_of_field field) (codes "jstype") (codes "JS_STRING") || says (statements_of_field field) (codes "jstype") (codes "JS_NUMBER"))
    && not (may_have_js_type field)

-- The name in JSON isn't the one that linking gives to a field without one.
abbrev pub has_own_json_name : FieldDescriptorProto → Bool
has_own_json_name field =
    option_map_or (λ name. not (bytes_eq name (json_name (text_of field.name)))) field.json_name false

-- A field of a message may have such a name, an extension may not.
abbrev pub is_wrongly_named : FieldDescriptorProto → Bool
is_wrongly_named field = option_map_or (λ extendee. has_own_json_name field) field.extendee false

-- ---- what the field extends, and its type

abbrev pub is_optional_message : FieldDescriptorProto → Bool
is_optional_message field = has_label label.Optional field && has_type type.Message field

module _ (table : Table) where
  -- the number of the message that it extends
  abbrev pub extended : FieldDescriptorProto → Option ℕ
  extended field = option_and_then (named table) field.extendee

  -- the file of what has a number
  abbrev pub file_of : ℕ → Option ℕ
  file_of n = option_map (λ thing. thing.file) (slice_get table.things n)

module _ (table : Table) (marks : Marks) where
  -- It extends a message set, and is no optional message.
  abbrev pub is_wrong_in_set : FieldDescriptorProto → Bool
  is_wrong_in_set field =
      not (is_optional_message field) && option_map_or (is_marked marks.message_sets) (extended table field) false

  -- It extends a message of a file that isn't lite.
  abbrev pub extends_other_than_lite : FieldDescriptorProto → Bool
  extends_other_than_lite field =
      option_map_or (λ f. not (is_marked marks.lite f)) (option_and_then (file_of table) (extended table field)) false

  -- The number is that of an enum in a file that isn't of proto3.
  abbrev pub is_closed : ℕ → Bool
  is_closed n = option_map_or (λ f. not (is_marked marks.proto3 f)) (file_of table n) false

  -- The file is lite, and what the field extends isn't.
  abbrev pub is_wrong_in_lite : ℕ → FieldDescriptorProto → Bool
  is_wrong_in_lite file field = is_marked marks.lite file && extends_other_than_lite field

  -- ---- the faults

  module _ (file : ℕ) (path : Path) (full_name : List ℕ) where
    -- the faults of a field whose type is the enum with a number
    abbrev pub closed_enum_faults : FieldDescriptorProto → Option ℕ → List CheckFault
    closed_enum_faults field None = []
    closed_enum_faults field (Some n) =
        fault_if (is_closed n) (fault_at file path (type_tag field) (ClosedEnum n (message_of table full_name field.extendee)))

    -- In a file of proto3 the enums of fields are those of proto3.
    abbrev pub enum_faults : FieldDescriptorProto → List CheckFault
    enum_faults field =
        if is_marked marks.proto3 file && has_type type.Enum field
        then closed_enum_faults field (option_and_then (named table) field.type_name)
        else []

    abbrev pub field_faults : List FileDescriptorProto → FieldDescriptorProto → List CheckFault
    field_faults files field =
        fault_if (is_wrongly_lazy field) (fault_at file path (type_tag field) Lazy)
        ++ (fault_if (is_wrongly_packed field) (fault_at file path (type_tag field) Packed)
        ++ (fault_if (is_wrong_in_set field) (fault_at file path (type_tag field) MessageSetExtension)
        ++ (fault_if (is_wrong_in_lite file field) (fault_at file path field_tag.EXTENDEE LiteExtension)
        ++ (fault_if (has_late_values files table field) (fault_at file path (type_tag field) MapValueEnum)
        ++ (fault_if (has_wrong_js_type field) (fault_at file path (type_tag field) JsType)
        ++ (fault_if (is_wrongly_named field) (fault_at file path field_tag.JSON_NAME ExtensionJsonName)
        ++ enum_faults field))))))
