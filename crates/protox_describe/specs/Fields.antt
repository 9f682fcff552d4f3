-- What a field says in its descriptor, and the messages made for groups and for map entries.
use Rattle.std.specs.Prelude.{ℕ, ◌==◌, Bool, true, false, if◌then◌else◌, List, [], ◌∷◌, ◌++◌, Option, Some, None, option_and_then, ℤ, pos, codes}
use Rattle.std.specs.Str.{str_to_ascii_lowercase}
use Rattle.protox_fault.specs.Faults.{Span}
use Rattle.protox_ast.specs.Types.{scalar_type, named_type}
use Rattle.protox_ast.specs.declared.ast.FieldLabel.{FieldLabel}
use Rattle.protox_ast.specs.declared.ast.FieldLabel.TheVariants as label
use Rattle.protox_ast.specs.declared.ast.OptionBody.{OptionBody}
use Rattle.protox_ast.specs.declared.ast.Syntax.{Syntax}
use Rattle.protox_ast.specs.declared.ast.Syntax.TheVariants.{Proto3}
use Rattle.protox_ast.specs.declared.ast.Ty.{Ty}
use Rattle.protox_descriptor.specs.Case.{pascal_case}
use Rattle.protox_descriptor.specs.declared.descriptor.DescriptorProto.{DescriptorProto, roll-DescriptorProto}
use Rattle.protox_descriptor.specs.declared.descriptor.EnumDescriptorProto.{EnumDescriptorProto}
use Rattle.protox_descriptor.specs.FieldDescriptorProto.{FieldDescriptorProto}
use Rattle.protox_descriptor.specs.declared.descriptor.OneofDescriptorProto.{OneofDescriptorProto}
use Rattle.protox_descriptor.specs.declared.descriptor.descriptor_proto.ExtensionRange.{ExtensionRange}
use Rattle.protox_descriptor.specs.declared.descriptor.descriptor_proto.ReservedRange.{ReservedRange}
use Rattle.protox_descriptor.specs.declared.descriptor.options.MessageOptions.{MessageOptions}
use Rattle.protox_ast.specs.FieldNumbers.{label_number, scalar_number}
use Rattle.protox_ast.specs.Values.{default_text, wanted}

-- the lists of a message's descriptor
pub record Parts : Type 0 where
  pub field : List FieldDescriptorProto
  pub extension : List FieldDescriptorProto
  pub nested : List DescriptorProto
  pub enum : List EnumDescriptorProto
  pub extension_range : List ExtensionRange
  pub oneof : List OneofDescriptorProto
  pub options : Option MessageOptions
  pub reserved_range : List ReservedRange
  pub reserved_name : List (List ℕ)

-- a field of a type, a group with this body, or a map with these types of keys and values
pub data Kind : Type 0 where
  Normal : Ty → Kind
  Group : Parts → Kind
  Map : Ty → Ty → Kind

-- ---- messages

-- the descriptor of a message with this name and these parts
abbrev pub message_proto : List ℕ → Parts → DescriptorProto
message_proto name parts =
    roll-DescriptorProto (record {
      name = Some name;
      field = parts.field;
      extension = parts.extension;
      nested_type = parts.nested;
      enum_type = parts.enum;
      extension_range = parts.extension_range;
      oneof_decl = parts.oneof;
      options = parts.options;
      reserved_range = parts.reserved_range;
      reserved_name = parts.reserved_name;
    })

-- the name of a map's entry message: `MyMapEntry` for `my_map`
abbrev pub entry_name : List ℕ → List ℕ
entry_name name = pascal_case name ++ codes "Entry"

-- a field of an entry message: optional, its JSON name the same as its name
abbrev pub entry_field : List ℕ → ℤ → Ty → FieldDescriptorProto
entry_field name number type = record {
  name = Some name;
  number = Some number;
  label = Some (pos 1);
  field_type = scalar_number (scalar_type type);
  type_name = named_type type;
  extendee = None;
  default_value = None;
  oneof_index = None;
  json_name = Some name;
  options = None;
  proto3_optional = None;
}

-- the parts of a map's entry message: a field `key` and a field `value`
abbrev pub entry_parts : Ty → Ty → Parts
entry_parts key value = record {
  field = entry_field (codes "key") (pos 1) key ∷ entry_field (codes "value") (pos 2) value ∷ [];
  extension = [];
  nested = [];
  enum = [];
  extension_range = [];
  oneof = [];
  options = Some (record { map_entry = Some true; uninterpreted_option = [] });
  reserved_range = [];
  reserved_name = [];
}

-- the message made for a group or for the entries of a map; none for another field
abbrev pub messages_of : List ℕ → Kind → List DescriptorProto
messages_of name (Normal type) = []
messages_of name (Group body) = message_proto name body ∷ []
messages_of name (Map key value) = message_proto (entry_name name) (entry_parts key value) ∷ []

-- ---- fields

-- the field's name; for a group, the name in small letters
abbrev pub field_name : List ℕ → Kind → List ℕ
field_name name (Group body) = str_to_ascii_lowercase name
field_name name _ = name

-- the number of the label: 1 optional, 2 required, 3 repeated; a map is repeated
abbrev pub label_of : Kind → Option (FieldLabel × Span) → ℤ
label_of (Map key value) label = pos 3
label_of _ label = label_number label

-- the number of the type: a scalar, a group (10), or a map's entry message (11). None for a named
-- type, since only its name is known.
abbrev pub field_type_of : Kind → Option ℤ
field_type_of (Normal type) = scalar_number (scalar_type type)
field_type_of (Group body) = Some (pos 10)
field_type_of (Map key value) = Some (pos 11)

-- The name of the type: a named type as it is written, a group's name, or the name of an entry
-- message. None for a scalar.
abbrev pub type_name_of : List ℕ → Kind → Option (List ℕ)
type_name_of name (Normal type) = named_type type
type_name_of name (Group body) = Some name
type_name_of name (Map key value) = Some (entry_name name)

-- the text of the default, where the field has one
abbrev pub default_value : Kind → Option OptionBody → Option (List ℕ)
default_value (Normal type) body = option_and_then (λ (b : OptionBody). default_text (wanted type) b.value) body
default_value _ body = None

-- ---- `optional` in proto3

-- The field is `optional` in proto3.
abbrev pub is_proto3_optional : Syntax → Option (FieldLabel × Span) → Bool
is_proto3_optional Proto3 (Some (label.Optional, span)) = true
is_proto3_optional _ _ = false

-- what `proto3_optional` says: true, or nothing
abbrev pub optional_flag : Bool → Option Bool
optional_flag true = Some true
optional_flag false = None

-- the name of the oneof made for a field: `_a` for `a`, `X_a` for `_a`
abbrev pub synthetic_name : List ℕ → List ℕ
synthetic_name [] = 95 ∷ []
synthetic_name (first ∷ rest) = if first == 95 then 88 ∷ first ∷ rest else 95 ∷ first ∷ rest

-- the oneof made for a field that is `optional` in proto3
abbrev pub synthetic_oneof : List ℕ → OneofDescriptorProto
synthetic_oneof name = record { name = Some (synthetic_name name); options = None }
