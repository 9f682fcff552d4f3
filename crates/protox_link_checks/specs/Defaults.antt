-- Defaults of fields whose type has a name.
use Rattle.std.specs.Prelude.{ℕ, ◌+◌, ◌==◌, ◌&&◌, not, pos, Bool, false, length, take, List, [], ◌∷◌, Option, Some, None, slice_get, slice_index_or, if◌then◌else◌}
use Rattle.std.specs.Char.{is_ascii_digit}
use Rattle.std.specs.Cmp.Lexicographic.{pointwise}
use Rattle.std.specs.Option.{option_and_then, option_map_or}
use Rattle.std.specs.Ordering.{int_eq}
use Rattle.protox_descriptor.specs.declared.tag.enum_.TheConstants.{VALUE}
use Rattle.protox_link_fault.specs.declared.LinkFaultKind.{LinkFaultKind}
use Rattle.protox_link_fault.specs.declared.LinkFaultKind.TheVariants.{BadDefault, MessageDefault, NoSuchValue}
use Rattle.protox_name_tree.specs.Tree.{kind_at, name_at, number_of}
use Rattle.protox_names.specs.Names.{is_identifier, scopes, within}
use Rattle.protox_scopes.specs.declared.kind.Kind.{Kind}
use Rattle.protox_scopes.specs.declared.kind.Kind.TheVariants as kind
use Rattle.protox_symbols.specs.Symbols.{Table}
use Rattle.protox_symbols.specs.declared.thing.Thing.{Thing}
use Rattle.protox_walk.specs.Declarations.{Path}

-- a letter or `_`, and then letters, digits and `_`
abbrev pub is_word : List ℕ → Bool
is_word [] = false
is_word (byte ∷ rest) = not (is_ascii_digit byte) && is_identifier (byte ∷ rest)

-- The path is that of a value of the enum with the path `enum`.
abbrev pub is_value_path : Path → Path → Bool
is_value_path enum path =
    (length path == length enum + 2)
    && (pointwise int_eq (take (length enum) path) enum && int_eq (slice_index_or path (length enum) (pos 0)) VALUE)

abbrev pub is_value_of : Thing → Option Thing → Bool
is_value_of enum None = false
is_value_of enum (Some value) = (value.file == enum.file) && is_value_path enum.path value.path

-- the scope that stands in front of these; the nameless one where there is none
abbrev pub innermost : List (List ℕ) → List ℕ
innermost [] = []
innermost (scope ∷ outer) = scope

module _ (table : Table) where
  -- what has this name beside the enum with this number
  abbrev pub beside : ℕ → List ℕ → Option Thing
  beside n name =
      option_and_then (slice_get table.things) (number_of table.names (within (innermost (scopes (name_at table.names n))) name))

  -- The enum with this number has a value of this name. Values stand beside their enum.
  abbrev pub has_value : ℕ → List ℕ → Bool
  has_value n name = option_map_or (λ enum. is_value_of enum (beside n name)) (slice_get table.things n) false

  -- what is wrong with a default, where the type is the enum with this number
  abbrev pub wrong_value : ℕ → List ℕ → List LinkFaultKind
  wrong_value n default =
      if is_word default then (if has_value n default then [] else NoSuchValue n ∷ [])
      else BadDefault ∷ []

  -- the same by the kind of the type
  abbrev pub wrong_default_of : Kind → ℕ → List ℕ → List LinkFaultKind
  wrong_default_of kind.Message n default = MessageDefault ∷ []
  wrong_default_of kind.Enum n default = wrong_value n default
  wrong_default_of kind.Service n default = []
  wrong_default_of kind.Package n default = []
  wrong_default_of kind.Member n default = []

  -- the same for the type that has this number, if there is one
  abbrev pub wrong_default : Option ℕ → List ℕ → List LinkFaultKind
  wrong_default None default = []
  wrong_default (Some n) default = wrong_default_of (kind_at table.names n) n default
