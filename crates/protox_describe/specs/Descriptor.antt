-- The descriptor of a message. Fields come in the order of the source, those of a oneof where the
-- oneof stands. Nested messages do too, with the messages of groups and of map entries among them.
use Rattle.std.specs.Prelude.{ℕ, ◌+◌, Bool, true, false, if◌then◌else◌, List, [], ◌∷◌, ◌++◌, length, map, Option, Some, None, ℤ, pos}
use Rattle.std.specs.List.{flat_map}
use Rattle.protox_ast.specs.Names.{type_name_text}
use Rattle.protox_ast.specs.Steps.{Steps}
use Rattle.protox_ast.specs.declared.ast.Extensions.{Extensions}
use Rattle.protox_ast.specs.declared.ast.FieldKind.TheOpen.{MessageItem-F, Field-F, FieldKind-F}
use Rattle.protox_ast.specs.declared.ast.Reserved.{Reserved}
use Rattle.protox_ast.specs.declared.ast.Syntax.{Syntax}
use Rattle.protox_ast.specs.declared.ast.TypeName.{TypeName}
use Rattle.protox_descriptor.specs.declared.descriptor.DescriptorProto.{DescriptorProto}
use Rattle.protox_descriptor.specs.declared.descriptor.EnumDescriptorProto.{EnumDescriptorProto}
use Rattle.protox_descriptor.specs.FieldDescriptorProto.{FieldDescriptorProto}
use Rattle.protox_descriptor.specs.declared.descriptor.OneofDescriptorProto.{OneofDescriptorProto}
use Rattle.protox_describe.specs.Enums.{enum_proto}
use Rattle.protox_describe.specs.Fields.{Kind, Normal, Group, Map, Parts, message_proto, label_of, field_type_of, field_name, type_name_of, default_value, messages_of, is_proto3_optional, optional_flag, synthetic_oneof}
use Rattle.protox_ast.specs.FieldNumbers.{number_of}
use Rattle.protox_ast.specs.Options.{OptionStatement, bodies_of, default_of, json_name, json_name_of, options_left, options_message}
use Rattle.protox_ast.specs.Ranges.{extension_protos, greatest_number, reserved_range, reserved_ranges, reserved_texts}
use Rattle.protox_describe.specs.Siblings.{each_after, count}

-- ---- what each part of a message contributes

-- What a field contributes: its descriptor; the message of a group or of a map entry; and the oneof
-- made for it where it is `optional` in proto3 (for fields of a message).
pub record Gives : Type 0 where
  pub field : FieldDescriptorProto
  pub nested : List DescriptorProto
  pub synthetic : List OneofDescriptorProto

-- What a oneof contributes: its descriptor and its fields.
pub record OneofGives : Type 0 where
  pub oneof : OneofDescriptorProto
  pub fields : List Gives

-- what one item of a message's body contributes
pub data Item : Type 0 where
  OfField : Gives → Item
  OfMessage : DescriptorProto → Item
  OfOneof : OneofGives → Item
  OfEnum : EnumDescriptorProto → Item
  OfExtend : List Gives → Item

-- ---- from the items of a body to the lists of a descriptor

-- The item is a oneof.
abbrev pub is_oneof : Item → Bool
is_oneof (OfOneof gives) = true
is_oneof _ = false

-- the oneof that an item writes, if it is one
abbrev pub oneofs_of : Item → List OneofDescriptorProto
oneofs_of (OfOneof gives) = gives.oneof ∷ []
oneofs_of _ = []

-- the oneof that is made for an item, if one is
abbrev pub synthetic_of : Item → List OneofDescriptorProto
synthetic_of (OfField gives) = gives.synthetic
synthetic_of _ = []

-- the oneofs that are written, and then those made for fields
abbrev pub all_oneofs : List Item → List OneofDescriptorProto
all_oneofs items = flat_map oneofs_of items ++ flat_map synthetic_of items

-- the field, in the oneof with this index
abbrev pub in_oneof : Option ℤ → Gives → FieldDescriptorProto
in_oneof index gives = record gives.field { oneof_index = index }

-- The index of the oneof made for a field, if one is made. `others` oneofs come before it.
abbrev pub synthetic_index : ℕ → Gives → Option ℤ
synthetic_index others gives = elim gives.synthetic as (λ _. Option ℤ) [ [] ↦ None | oneof ∷ more ↦ Some (pos others) ]

-- The fields of an item. `written` oneofs stand in the whole message, and `before` are the items
-- before this one.
abbrev pub fields_of : ℕ → List Item → Item → List FieldDescriptorProto
fields_of written before (OfField gives) = in_oneof (synthetic_index (written + length (flat_map synthetic_of before)) gives) gives ∷ []
fields_of written before (OfOneof gives) = map (in_oneof (Some (pos (count is_oneof before)))) gives.fields
fields_of written before _ = []

-- the extensions that an item declares
abbrev pub extensions_of : Item → List FieldDescriptorProto
extensions_of (OfExtend fields) = map (λ gives. gives.field) fields
extensions_of _ = []

-- the nested messages of an item, with those of groups and map entries
abbrev pub nested_of : Item → List DescriptorProto
nested_of (OfField gives) = gives.nested
nested_of (OfMessage message) = message ∷ []
nested_of (OfOneof oneof) = flat_map (λ gives. gives.nested) oneof.fields
nested_of (OfExtend fields) = flat_map (λ gives. gives.nested) fields
nested_of (OfEnum enum) = []

-- the enum that an item is, if it is one
abbrev pub enums_of : Item → List EnumDescriptorProto
enums_of (OfEnum enum) = enum ∷ []
enums_of _ = []

-- the lists of a message's descriptor, from what its body contributes
abbrev pub parts : List Item → List Extensions → List OptionStatement → List Reserved → Parts
parts items extensions options reserved = record {
  field = each_after (fields_of (count is_oneof items)) [] items;
  extension = flat_map extensions_of items;
  nested = flat_map nested_of items;
  enum = flat_map enums_of items;
  extension_range = extension_protos (greatest_number options) extensions;
  oneof = all_oneofs items;
  options = options_message (λ uninterpreted. record { map_entry = None; uninterpreted_option = uninterpreted }) (bodies_of options);
  reserved_range = map (reserved_range (greatest_number options)) (reserved_ranges reserved);
  reserved_name = reserved_texts reserved;
}

-- ---- what is computed at each part of the tree

-- a node of the tree, with what each node below contributes in its place
abbrev Layer : (Type 0 → Type 0 → Type 0 → Type 0 → Type 0 → Type 0 → Type 0 → Type 0) → Type 0
Layer F = F Kind Item (List Gives) Gives DescriptorProto Parts OneofGives

-- the kind of a field; for a group with the lists of its message's descriptor
abbrev pub kind_step : Layer FieldKind-F → Kind
kind_step (FieldKind-F.Normal type span) = Normal type
kind_step (FieldKind-F.Group span body) = Group body
kind_step (FieldKind-F.Map span key key_span value value_span) = Map key value

-- what an item contributes
abbrev pub item_step : Layer MessageItem-F → Item
item_step (MessageItem-F.Field field) = OfField field
item_step (MessageItem-F.Message message) = OfMessage message
item_step (MessageItem-F.Oneof oneof) = OfOneof oneof
item_step (MessageItem-F.Enum enum) = OfEnum (enum_proto enum)
item_step (MessageItem-F.Extend extend) = OfExtend extend

-- An extension's extendee is the type name as it is written.
abbrev pub extending : TypeName → Gives → Gives
extending extendee gives = record gives { field = record gives.field { extendee = Some (type_name_text extendee) } }

module _ (syntax : Syntax) where
  -- what a field contributes, from its parts
  abbrev pub field_step : Layer Field-F → Gives
  field_step f = record {
    field = record {
      name = Some (field_name f.name.value f.kind);
      number = number_of f.number;
      label = Some (label_of f.kind f.label);
      field_type = field_type_of f.kind;
      type_name = type_name_of f.name.value f.kind;
      extendee = None;
      default_value = default_value f.kind (default_of f.options);
      oneof_index = None;
      json_name = json_name (json_name_of f.options);
      options = options_message (λ uninterpreted. record { uninterpreted_option = uninterpreted }) (options_left f.options);
      proto3_optional = optional_flag (is_proto3_optional syntax f.label);
    };
    nested = messages_of f.name.value f.kind;
    synthetic = if is_proto3_optional syntax f.label then synthetic_oneof f.name.value ∷ [] else [];
  }

  -- The steps that compute a message's descriptor: `of_message (descriptor_steps syntax) message`.
  abbrev pub descriptor_steps : Steps Kind Item (List Gives) Gives DescriptorProto Parts OneofGives
  descriptor_steps = record {
    kind = kind_step;
    item = item_step;
    extend = λ e. map (extending e.extendee) e.fields;
    field = field_step;
    message = λ m. message_proto m.name.value m.body;
    body = λ b. parts b.items b.extensions b.options b.reserved;
    oneof = λ o. record {
      oneof = record { name = Some o.name.value; options = options_message (λ uninterpreted. record { uninterpreted_option = uninterpreted }) (bodies_of o.options) };
      fields = o.fields;
    };
  }
