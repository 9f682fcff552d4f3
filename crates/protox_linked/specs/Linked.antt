-- What linking changes of a file: the names that it uses, types of fields, and JSON names. All else
-- stays.
use Rattle.std.specs.Prelude.{ℕ, ℤ, Bool, ◌&&◌, List, [], map, Option, Some, None, option_map}
use Rattle.std.specs.List.{list_all}
use Rattle.std.specs.Option.{option_and_then, option_map_or, option_or, unwrap_or}
use Rattle.protox_names.specs.Cases.{json_name as json_name_of}
use Rattle.protox_names.specs.Names.{within}
use Rattle.protox_scopes.specs.declared.kind.Kind.{Kind}
use Rattle.protox_scopes.specs.declared.kind.Kind.TheVariants as kind
use Rattle.protox_scopes.specs.declared.kind.Wanted.{Wanted}
use Rattle.protox_scopes.specs.declared.kind.Wanted.TheVariants.{AType, Anything}
use Rattle.protox_descriptor.specs.FieldDescriptorProto.{FieldDescriptorProto}
use Rattle.protox_descriptor.specs.FieldWords.{type_number}
use Rattle.protox_descriptor.specs.declared.descriptor.DescriptorProto.{DescriptorProto, roll-DescriptorProto}
use Rattle.protox_descriptor.specs.declared.descriptor.DescriptorProto.TheFolds.{fold-DescriptorProto}
use Rattle.protox_descriptor.specs.declared.descriptor.DescriptorProto.TheOpen.{DescriptorProto-F}
use Rattle.protox_descriptor.specs.declared.descriptor.FileDescriptorProto.{FileDescriptorProto}
use Rattle.protox_descriptor.specs.declared.descriptor.MethodDescriptorProto.{MethodDescriptorProto}
use Rattle.protox_descriptor.specs.declared.descriptor.ServiceDescriptorProto.{ServiceDescriptorProto}
use Rattle.protox_descriptor.specs.declared.descriptor.field_descriptor_proto.FieldType.TheVariants as type
use Rattle.protox_linked.specs.declared.target.Target.{Target}

-- the text of a name; the empty one where the name is not set
abbrev pub text_of : Option (List ℕ) → List ℕ
text_of name = unwrap_or name []

-- the type of a field that names a thing of this kind
abbrev pub type_of_kind : Kind → Option ℤ
type_of_kind kind.Message = Some (type_number type.Message)
type_of_kind kind.Enum = Some (type_number type.Enum)
type_of_kind kind.Service = None
type_of_kind kind.Package = None
type_of_kind kind.Member = None

-- The name in JSON that a field says, or else the one that its name makes.
abbrev pub json_of : FieldDescriptorProto → List ℕ
json_of field = unwrap_or field.json_name (json_name_of (text_of field.name))

abbrev pub with_json_name : FieldDescriptorProto → FieldDescriptorProto
with_json_name field = record field { json_name = Some (json_of field) }

-- `meaning` tells what a name stands for: what is wanted, the full name of the scope that the user
-- stands in, and the name.
module _ (meaning : Wanted → List ℕ → List ℕ → Option Target) where
  -- A dot, and the full name of what the name stands for. A name that stands for nothing stays.
  abbrev pub linked_name : Wanted → List ℕ → List ℕ → List ℕ
  linked_name wanted scope name = option_map_or (λ target. target.name) (meaning wanted scope name) name

  -- A type that is set stays, as that of a group or of a map.
  abbrev pub linked_type : List ℕ → FieldDescriptorProto → Option ℤ
  linked_type scope field =
      option_or field.field_type
      (option_and_then (λ name. option_and_then (λ target. type_of_kind target.kind) (meaning AType scope name)) field.type_name)

  abbrev pub with_linked_type : List ℕ → FieldDescriptorProto → FieldDescriptorProto
  with_linked_type scope field = record field {
    field_type = linked_type scope field;
    type_name = option_map (linked_name AType scope) field.type_name;
  }

  abbrev pub with_linked_extendee : List ℕ → FieldDescriptorProto → FieldDescriptorProto
  with_linked_extendee scope field = record field {
    extendee = option_map (linked_name Anything scope) field.extendee;
  }

  -- A field, or an extension.
  abbrev pub linked_field : List ℕ → FieldDescriptorProto → FieldDescriptorProto
  linked_field scope field =
      with_json_name (with_linked_extendee scope (with_linked_type scope field))

  abbrev pub linked_method : List ℕ → MethodDescriptorProto → MethodDescriptorProto
  linked_method scope method = record method {
    input_type = option_map (linked_name Anything scope) method.input_type;
    output_type = option_map (linked_name Anything scope) method.output_type;
  }

  -- The names of a service's methods are used in the service.
  abbrev pub linked_service : List ℕ → ServiceDescriptorProto → ServiceDescriptorProto
  linked_service scope service = record service {
    method = map (linked_method (within scope (text_of service.name))) service.method;
  }

  -- what a message becomes in a scope
  abbrev pub Linked : Type 0
  Linked = List ℕ → DescriptorProto

  -- The names of a message's fields are used in the message.
  abbrev pub message_step : DescriptorProto-F Linked → Linked
  message_step m scope =
      let inside = within scope (text_of m.name) in
      roll-DescriptorProto (record {
        name = m.name;
        field = map (linked_field inside) m.field;
        extension = map (linked_field inside) m.extension;
        nested_type = map (λ linked. linked inside) m.nested_type;
        enum_type = m.enum_type;
        extension_range = m.extension_range;
        oneof_decl = m.oneof_decl;
        options = m.options;
        reserved_range = m.reserved_range;
        reserved_name = m.reserved_name;
      })

  abbrev pub linked_message : List ℕ → DescriptorProto → DescriptorProto
  linked_message scope message = fold-DescriptorProto Linked message_step message scope

  -- The scope is the package, or the nameless one.
  abbrev pub linked_file : FileDescriptorProto → FileDescriptorProto
  linked_file file =
      let scope = text_of file.«package» in
      record file {
        message_type = map (linked_message scope) file.message_type;
        service = map (linked_service scope) file.service;
        extension = map (linked_field scope) file.extension;
      }

-- ---- scopes

-- `stands` tells which full names can be scopes.
module _ (stands : List ℕ → Bool) where
  abbrev pub OfMessage : Type 0
  OfMessage = List ℕ → Bool

  abbrev pub stands_step : DescriptorProto-F OfMessage → OfMessage
  stands_step m scope =
      let inside = within scope (text_of m.name) in
      stands inside && list_all (λ stand. stand inside) m.nested_type

  -- The message and those in it can be scopes.
  abbrev pub message_stands : List ℕ → DescriptorProto → Bool
  message_stands scope message = fold-DescriptorProto OfMessage stands_step message scope

  abbrev pub service_stands : List ℕ → ServiceDescriptorProto → Bool
  service_stands scope service = stands (within scope (text_of service.name))

  -- All messages and services of the file can be scopes.
  abbrev pub file_stands : FileDescriptorProto → Bool
  file_stands file =
      list_all (message_stands (text_of file.«package»)) file.message_type
      && list_all (service_stands (text_of file.«package»)) file.service
