-- What contracts see of the descriptor of a field.
use Rattle.std.specs.Prelude.{ℕ, ℤ, Bool, List, Option}
use Rattle.protox_descriptor.specs.declared.descriptor.options.FieldOptions.{FieldOptions}

-- A field of a message, or an extension. Each part is as in the message `FieldDescriptorProto`.
-- Texts are lists of bytes.
pub record FieldDescriptorProto : Type 0 where
  pub name : Option (List ℕ)
  pub number : Option ℤ
  pub label : Option ℤ
  pub field_type : Option ℤ
  pub type_name : Option (List ℕ)
  pub extendee : Option (List ℕ)
  pub default_value : Option (List ℕ)
  pub oneof_index : Option ℤ
  pub json_name : Option (List ℕ)
  pub options : Option FieldOptions
  pub proto3_optional : Option Bool
