-- Scopes of a table, by number, and what is declared in them.
use Rattle.std.specs.Prelude.{◌≡◌, ◌≢◌, ℕ, List, [], fold, map, Option, Some, None}
use Rattle.protox_names.specs.Tree.{name_of_place}
use Rattle.protox_name_tree.specs.Tree.{AreTreeNames, IsKnown, name_at, number_of}
use Rattle.protox_walk.specs.Parts.{Declared}
use Rattle.protox_symbols.specs.Symbols.{Table}
use Rattle.protox_symbols.specs.Things.{entry_of, with_entry}

-- the full name of a scope; with no number, that of the nameless one, which is empty
abbrev pub scope_name : Table → Option ℕ → List ℕ
scope_name table scope = name_of_place (name_at table.names) scope

-- The nameless scope, or one of the table, has this full name.
pub record IsScopeOf (table : Table) (full_name : List ℕ) (scope : Option ℕ) : Type 0 where
  pub known : IsKnown table.names.full_names scope
  pub named : scope_name table scope ≡ full_name

-- No scope of the table has this full name.
pub record IsMissing (table : Table) (full_name : List ℕ) : Type 0 where
  pub tree : AreTreeNames table.names.full_names
  pub some : full_name ≢ []
  pub none : number_of table.names full_name ≡ None

-- the scope with this full name, if there is one
abbrev pub IsFoundScope : Table → List ℕ → Option (Option ℕ) → Type 0
IsFoundScope table full_name None = IsMissing table full_name
IsFoundScope table full_name (Some scope) = IsScopeOf table full_name scope

-- the table with more declarations of the file with a number
unfoldable pub with_declarations : ℕ → Table → List Declared → Table
with_declarations file table declarations = fold with_entry table (map (entry_of file) declarations)
