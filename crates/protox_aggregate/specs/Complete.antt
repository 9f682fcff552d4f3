-- Messages that end: which fields they need, and what the entry of a map has that isn't told.
use Rattle.std.specs.Prelude.{ℕ, Bool, false, not, ◌||◌, List, [], ◌∷◌, ◌++◌, Option, Some, None, if◌then◌else◌}
use Rattle.std.specs.Option.{option_eq, option_map_or, option_or, unwrap_or}
use Rattle.std.specs.Ordering.{int_eq}
use Rattle.protox_aggregate.specs.Fields.{has_type, wire_number}
use Rattle.protox_aggregate.specs.Levels.{Level, has_told}
use Rattle.protox_aggregate.specs.Names.{if_fits, inside}
use Rattle.protox_aggregate.specs.declared.level.Told.{Told}
use Rattle.protox_descriptor.specs.FieldDescriptorProto.{FieldDescriptorProto}
use Rattle.protox_descriptor.specs.FieldWords.{label_number}
use Rattle.protox_descriptor.specs.declared.descriptor.DescriptorProto.{DescriptorProto, out-DescriptorProto}
use Rattle.protox_descriptor.specs.declared.descriptor.FileDescriptorProto.{FileDescriptorProto}
use Rattle.protox_descriptor.specs.declared.descriptor.field_descriptor_proto.FieldType.TheVariants as type
use Rattle.protox_descriptor.specs.declared.descriptor.field_descriptor_proto.Label.TheVariants as label
use Rattle.protox_message_bytes.specs.declared.entry.Entry.{Entry}
use Rattle.protox_message_bytes.specs.declared.entry.Entry.TheVariants as entry
use Rattle.protox_settings.specs.Fields.{message_numbered}
use Rattle.protox_symbols.specs.Symbols.{Table}
use Rattle.protox_values.specs.declared.setting.SettingValue.{SettingValue}
use Rattle.protox_values.specs.declared.setting.SettingValue.TheVariants as on_wire
use Rattle.protox_walk.specs.Declarations.{text_of}

abbrev pub is_required : FieldDescriptorProto → Bool
is_required field = option_eq int_eq field.label (Some (label_number label.Required))

-- ---- zero

-- 0 or an empty text, by the type of a field
abbrev pub zero_of : FieldDescriptorProto → SettingValue
zero_of field =
    if has_type type.Double field || (has_type type.Fixed64 field || has_type type.Sfixed64 field) then on_wire.Eight 0
    else if has_type type.Float field || (has_type type.Fixed32 field || has_type type.Sfixed32 field) then on_wire.Four 0
    else if has_type type.String field || has_type type.Bytes field then on_wire.Bytes []
    else on_wire.Varint 0

-- the value of a field that isn't told: 0, an empty text or an empty message
abbrev pub zero_entries : FieldDescriptorProto → List Entry
zero_entries field =
    if has_type type.Message field then entry.Open (wire_number field) false ∷ entry.Close ∷ []
    else entry.Value (wire_number field) false (zero_of field) ∷ []

-- ---- fields that aren't told

-- `told` are fields of a message that have a value.
module _ (table : Table) (message : ℕ) (told : List Told) where
  -- the number of a field of the message, if it has no value
  abbrev pub untold : FieldDescriptorProto → Option ℕ
  untold field = if_fits (λ n. not (has_told told n)) (inside table message (text_of field.name))

  abbrev pub missing_field : FieldDescriptorProto → Option ℕ
  missing_field field = if is_required field then untold field else None

  -- the first field of some that is required and has no value
  abbrev pub missing : List FieldDescriptorProto → Option ℕ
  missing [] = None
  missing (field ∷ more) = option_or (missing_field field) (missing more)

  abbrev pub zero_if_untold : FieldDescriptorProto → Option ℕ → List Entry
  zero_if_untold field None = []
  zero_if_untold field (Some n) = zero_entries field

  -- what some fields have that have no value
  abbrev pub zeros : List FieldDescriptorProto → List Entry
  zeros [] = []
  zeros (field ∷ more) = zero_if_untold field (untold field) ++ zeros more

-- ---- messages that end

-- whether the message is the entry of a map
abbrev pub is_map_entry : DescriptorProto → Bool
is_map_entry m = option_map_or (λ options. unwrap_or options.map_entry false) (out-DescriptorProto m).options false

-- What is said besides where a message ends. The key and the value of an entry are always said.
abbrev pub ends_with : Table → Level → DescriptorProto → List Entry
ends_with table level m = if is_map_entry m then zeros table level.message level.told (out-DescriptorProto m).field else []

abbrev pub ended : Table → Level → Option DescriptorProto → List Entry
ended table level None = []
ended table level (Some m) = ends_with table level m

-- what is said besides where a message ends
abbrev pub said_at_end : List FileDescriptorProto → Table → Level → List Entry
said_at_end files table level = ended table level (message_numbered files table level.message)

abbrev pub missing_of : Table → Level → Option DescriptorProto → Option ℕ
missing_of table level None = None
missing_of table level (Some m) = missing table level.message level.told (out-DescriptorProto m).field

-- Which field has no value, where a message ends: one that a message in it needs, or that it needs
-- itself.
abbrev pub missing_at_end : List FileDescriptorProto → Table → Level → Option ℕ
missing_at_end files table level = option_or level.missing (missing_of table level (message_numbered files table level.message))
