-- A table of what is declared.
use Rattle.std.specs.Prelude.{ℕ, Bool, not, ◌&&◌, List, [], ◌∷◌, ◌++◌, is_some, if◌then◌else◌}
use Rattle.protox_scopes.specs.declared.kind.Kind.{Kind}
use Rattle.protox_name_tree.specs.Tree.{Names, can_stand, number_of, with_declared, with_name}
use Rattle.protox_symbols.specs.declared.thing.Thing.{Thing}

-- The names, and where each was declared first. What has number n stands at place n of both.
pub record Table : Type 0 where
  pub names : Names
  pub things : List Thing

-- a full name that can stand among the names, and doesn't yet
abbrev pub is_new : Names → List ℕ → Bool
is_new names full_name = can_stand names full_name && not (is_some (number_of names full_name))

-- The table with one more declaration. Of two with one full name, the first stays.
abbrev pub with_thing : Table → List ℕ → Kind → Thing → Table
with_thing table full_name kind thing = record {
  names = with_declared table.names full_name kind;
  things = if is_new table.names full_name then table.things ++ thing ∷ [] else table.things;
}

-- the same for a full name in a scope of the table, where it can stand
abbrev pub with_added : Table → List ℕ → Kind → Thing → Table
with_added table full_name kind thing = record {
  names = with_name table.names full_name kind;
  things = if is_some (number_of table.names full_name) then table.things else table.things ++ thing ∷ [];
}
