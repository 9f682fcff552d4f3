-- Names of which each scope is one, too.
use Rattle.std.specs.Prelude.{ℕ, Bool, true, List, [], ◌∷◌, is_some, option_map, slice_get, string_bytes, unwrap_or}
use Rattle.std.specs.List.{list_all}
use Rattle.protox_names.specs.Names.{scopes}
use Rattle.scopecases.specs.Listed.{place_of}
use Rattle.scopecases.specs.declared.listed.Entry.{Entry}
use Rattle.scopecases.specs.declared.listed.Listed.{Listed}

-- the innermost of the scopes, if there is one, is in the list
abbrev pub innermost_is_listed : Listed → List (List ℕ) → Bool
innermost_is_listed listed [] = true
innermost_is_listed listed (scope ∷ outer) = is_some (place_of listed scope)

abbrev pub stands_in_listed : Listed → Entry → Bool
stands_in_listed listed entry = innermost_is_listed listed (scopes (string_bytes entry.full_name))

-- each entry stands in an entry, or in the nameless scope
abbrev pub is_nested : Listed → Bool
is_nested listed = list_all (stands_in_listed listed) listed.entries.items

-- the full name of the entry at a place; the empty one where there is none
abbrev pub name_at : Listed → ℕ → List ℕ
name_at listed place = unwrap_or (option_map (λ entry. string_bytes entry.full_name) (slice_get listed.entries.items place)) []
