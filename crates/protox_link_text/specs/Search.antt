-- What the search for a name comes upon, if the name stands for nothing that the file sees.
use Rattle.std.specs.Prelude.{ℕ, ℤ, Bool, true, false, List, [], ◌∷◌, drop, Option, Some, None, option_map, if◌then◌else◌}
use Rattle.std.specs.Borrow.{Bor}
use Rattle.std.specs.Option.{option_and_then}
use Rattle.std.specs.Ordering.{int_eq}
use Rattle.protox_descriptor.specs.declared.tag.field.TheConstants as field_tag
use Rattle.protox_link_text.specs.declared.search.Searched.{Searched as Found}
use Rattle.protox_name_tree.specs.Tree.{kind_at, number_of}
use Rattle.protox_names.specs.Names.{front, is_absolute, is_one_part, scopes, within}
use Rattle.protox_scopes.specs.Scopes.{holds_names, step}
use Rattle.protox_scopes.specs.declared.kind.Wanted.{Wanted}
use Rattle.protox_scopes.specs.declared.kind.Wanted.TheVariants.{AType, Anything}
use Rattle.protox_scopes.specs.declared.step.Step.{Step}
use Rattle.protox_scopes.specs.declared.step.Step.TheVariants.{Ends, GoesOn}
use Rattle.protox_symbols.specs.Symbols.{Table}
use Rattle.protox_views.specs.Views.{is_seen, seen}

-- What the part at the end of a path wants: the type of a field a type, all else anything.
abbrev pub wanted_at : List ℤ → Wanted
wanted_at [] = Anything
wanted_at (tag ∷ []) = Anything
wanted_at (tag ∷ n ∷ []) = Anything
wanted_at (tag ∷ n ∷ part ∷ rest) = if int_eq part field_tag.TYPE_NAME then AType else Anything

-- the scopes that are searched for a user in a scope: this one and those around it
abbrev pub searched_scopes : List ℕ → List (List ℕ)
searched_scopes [] = []
searched_scopes (byte ∷ scope) = (byte ∷ scope) ∷ scopes (byte ∷ scope)

-- What is told of a search: the last thing on its way that the file doesn't see, and the full name at
-- which it ended, if that was inside something.
pub record Searched : Type 0 where
  pub unseen : Option ℕ
  pub ended : Option (List ℕ)

-- the later one of two things, if there is one
abbrev pub later : Option ℕ → Option ℕ → Option ℕ
later first None = first
later first (Some n) = Some n

abbrev pub is_end : Step ℕ → Bool
is_end (Ends found) = true
is_end GoesOn = false

module _ (table : Table) (sees packages : List Bool) where
  -- what has a full name, if the file doesn't see it
  abbrev pub unseen : List ℕ → Option ℕ
  unseen name = option_and_then (λ n. if is_seen table sees packages n then None else Some n) (number_of table.names name)

  -- In a scope the first part of a name is looked for. If that is found in the file's view, and holds
  -- names, all of a name with more parts is.
  abbrev pub unseen_from : List ℕ → List ℕ → Option ℕ → Option ℕ
  unseen_from name scope None = unseen (within scope (front name))
  unseen_from name scope (Some n) =
      if is_one_part name then None
      else if holds_names (kind_at table.names n) then unseen (within scope name) else None

  abbrev pub unseen_in : List ℕ → List ℕ → Option ℕ
  unseen_in name scope = unseen_from name scope (seen table sees packages (within scope (front name)))

  abbrev pub ends_in : Wanted → List ℕ → List ℕ → Bool
  ends_in wanted name scope = is_end (step (kind_at table.names) (seen table sees packages) wanted name scope)

  -- a search in these scopes, behind one that came upon this
  abbrev pub search_in : Wanted → List ℕ → Option ℕ → List (List ℕ) → Searched
  search_in wanted name so_far [] = record { unseen = later so_far (unseen name); ended = None }
  search_in wanted name so_far (scope ∷ outer) =
      if ends_in wanted name scope then record { unseen = later so_far (unseen_in name scope); ended = Some (within scope name) }
      else search_in wanted name (later so_far (unseen_in name scope)) outer

  -- the search for a name that is used in a scope
  abbrev pub search : Wanted → List ℕ → List ℕ → Searched
  search wanted name scope =
      if is_absolute name then record { unseen = unseen (drop 1 name); ended = None }
      else search_in wanted name None (searched_scopes scope)

-- the scopes that are left to search, at this one
abbrev pub scopes_at : Option (Bor (List ℕ)) → List (List ℕ)
scopes_at None = []
scopes_at (Some scope) = scope.now ∷ scopes scope.now

-- what the code has of a search for a name: of its end, the scope
abbrev pub seen_search : List ℕ → Found → Searched
seen_search name found = record { unseen = found.unseen; ended = option_map (λ scope. within scope.now name) found.ended }
