-- Names that faults speak of.
use Rattle.std.specs.Prelude.{ℕ, List, [], Option, Some, None, slice_get}
use Rattle.protox_descriptor.specs.declared.descriptor.EnumValueDescriptorProto.{EnumValueDescriptorProto}
use Rattle.protox_name_tree.specs.Tree.{number_of}
use Rattle.protox_names.specs.Names.{scopes, within}
use Rattle.protox_settings.specs.Fields.{named}
use Rattle.protox_symbols.specs.Symbols.{Table}
use Rattle.protox_walk.specs.Declarations.{text_of}

-- the scope that what has this full name stands in, if that isn't the nameless one
abbrev pub outer_scope : List ℕ → Option (List ℕ)
outer_scope full_name = slice_get (scopes full_name) 0

abbrev pub value_name : Option EnumValueDescriptorProto → List ℕ
value_name None = []
value_name (Some value) = text_of value.name

module _ (table : Table) where
  -- the number of a scope
  abbrev pub scope_number : Option (List ℕ) → Option ℕ
  scope_number None = None
  scope_number (Some scope) = number_of table.names scope

  -- The number of the message of a field with this full name: the one that it extends, or the one
  -- that it stands in.
  abbrev pub message_of : List ℕ → Option (List ℕ) → Option ℕ
  message_of full_name None = scope_number (outer_scope full_name)
  message_of full_name (Some extendee) = named table extendee

  -- the number of the value with an index, of the values that stand in a scope
  abbrev pub value_number : List ℕ → List EnumValueDescriptorProto → ℕ → Option ℕ
  value_number scope values i = number_of table.names (within scope (value_name (slice_get values i)))
