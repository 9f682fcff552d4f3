-- Which field of a message a name in text format stands for.
use Rattle.std.specs.Prelude.{ℕ, ◌==◌, Bool, false, not, ◌&&◌, List, [], ◌∷◌, Option, Some, None, Result, Err, is_some, ok_or, if◌then◌else◌}
use Rattle.std.specs.List.{flat_map, list_any}
use Rattle.std.specs.Option.{option_eq, option_map_or, option_or}
use Rattle.std.specs.Str.{str_to_ascii_lowercase}
use Rattle.protox_aggregate.specs.Fields.{is_group}
use Rattle.protox_aggregate.specs.declared.fault.AggregateFaultKind.{AggregateFaultKind}
use Rattle.protox_aggregate.specs.declared.fault.AggregateFaultKind.TheVariants.{NoField, NoExtension, NoType}
use Rattle.protox_descriptor.specs.FieldDescriptorProto.{FieldDescriptorProto}
use Rattle.protox_descriptor.specs.declared.descriptor.FileDescriptorProto.{FileDescriptorProto}
use Rattle.protox_lexeme.specs.Shapes.{Shape, Ident, Mark}
use Rattle.protox_name_tree.specs.Tree.{kind_at, name_at, number_of}
use Rattle.protox_names.specs.Names.{scopes, within}
use Rattle.protox_scopes.specs.Scopes.{resolve}
use Rattle.protox_scopes.specs.declared.kind.Wanted.TheVariants.{Anything}
use Rattle.protox_settings.specs.Fields.{field_numbered, is_of, message_of_type}
use Rattle.protox_symbols.specs.Symbols.{Table}
use Rattle.protox_views.specs.Views.{seen}

-- the number, if the test holds
abbrev pub if_fits : (ℕ → Bool) → Option ℕ → Option ℕ
if_fits test None = None
if_fits test (Some n) = if test n then Some n else None

-- the word that a name is, if it isn't in brackets
abbrev pub word_of : List Shape → Option (List ℕ)
word_of (Ident word ∷ []) = Some word
word_of _ = None

abbrev pub word_or_dot : Shape → List ℕ
word_or_dot (Ident word) = word
word_or_dot (Mark mark) = if mark == 46 then 46 ∷ [] else []
word_or_dot _ = []

-- the words of a name in brackets, and the dots between them
abbrev pub dotted_words : List Shape → List ℕ
dotted_words shapes = flat_map word_or_dot shapes

abbrev pub is_slash : Shape → Bool
is_slash (Mark mark) = mark == 47
is_slash _ = false

-- the innermost of the scopes around something, or the nameless one
abbrev pub innermost : List (List ℕ) → List ℕ
innermost [] = []
innermost (scope ∷ outer) = scope

-- the number of what is declared under a name in a message
abbrev pub inside : Table → ℕ → List ℕ → Option ℕ
inside table message word = number_of table.names (within (name_at table.names message) word)

module _ (files : List FileDescriptorProto) (table : Table) where
  -- whether a number is that of a field, and the test holds of it
  abbrev pub is_field : (FieldDescriptorProto → Bool) → ℕ → Bool
  is_field test n = option_map_or test (field_numbered files table n) false

  -- the field of a message under its own name
  abbrev pub plain_field : ℕ → List ℕ → Option ℕ
  plain_field message word = if_fits (is_field (λ field. not (is_some field.extendee) && not (is_group field))) (inside table message word)

  abbrev pub is_group_of : Option ℕ → FieldDescriptorProto → Bool
  is_group_of of field = not (is_some field.extendee) && (is_group field && option_eq ◌==◌ (message_of_type table field) of)

  -- A group is called by the name of its type, which is declared beside it. Its own name has small
  -- letters in place of large ones.
  abbrev pub group_called : ℕ → List ℕ → Option ℕ
  group_called message word = if_fits (is_field (is_group_of (inside table message word))) (inside table message (str_to_ascii_lowercase word))

  abbrev pub field_called : ℕ → List ℕ → Option ℕ
  field_called message word = option_or (plain_field message word) (group_called message word)

  -- whether it is an extension of the message
  abbrev pub is_extension_of : ℕ → ℕ → Bool
  is_extension_of message n = is_field (λ field. is_some field.extendee && is_of table message n field) n

module _ (table : Table) (sees packages : List Bool) where
  -- what a name stands for in the scope in which a message stands
  abbrev pub beside : ℕ → List ℕ → Option ℕ
  beside message name = resolve (kind_at table.names) (seen table sees packages) Anything name (within (innermost (scopes (name_at table.names message))) [])

module _ (files : List FileDescriptorProto) (table : Table) (sees packages : List Bool) where
  -- The extension of a message with a name. That is looked for from the scope in which the message
  -- stands.
  abbrev pub extension_called : ℕ → List ℕ → Option ℕ
  extension_called message name = if_fits (is_extension_of files table message) (beside table sees packages message name)

  abbrev pub bracketed_field : ℕ → List Shape → Result ℕ AggregateFaultKind
  bracketed_field message shapes =
      if list_any is_slash shapes then Err NoType
      else ok_or (extension_called message (dotted_words shapes)) (NoExtension message)

  abbrev pub field_by_name : ℕ → List Shape → Option (List ℕ) → Result ℕ AggregateFaultKind
  field_by_name message shapes (Some word) = ok_or (field_called files table message word) (NoField message)
  field_by_name message shapes None = bracketed_field message shapes

  -- The field of a message that a name stands for.
  abbrev pub field_in_text : ℕ → List Shape → Result ℕ AggregateFaultKind
  field_in_text message shapes = field_by_name message shapes (word_of shapes)
