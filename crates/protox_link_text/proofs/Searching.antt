-- A search that goes outwards from scope to scope.
use Rattle.std.proofs.Common.{◌≡◌, ◌+◌, ℕ, Bool, true, false, cond, Bor, List, drop, length, Option, Some, None, sym, ap, ◌∙◌}
use Rattle.protox_link_text.specs.Search.{Searched, ends_in, later, scopes_at, search, search_in, searched_scopes, unseen, unseen_in}
use Rattle.protox_names.specs.Names.{is_absolute, scopes, within}
use Rattle.protox_scopes.specs.declared.kind.Wanted.{Wanted}
use Rattle.protox_symbols.specs.Symbols.{Table}

-- how far it is to the nameless scope, at most
abbrev pub way : Option (Bor (List ℕ)) → ℕ
way None = 0
way (Some scope) = length scope.now + 1

abbrev pub searched : Option ℕ → Option (List ℕ) → Searched
searched unseen ended = record { unseen = unseen; ended = ended }

module _ (table : Table) (sees packages : List Bool) (wanted : Wanted) (name : List ℕ) where
  -- the scope at a place ends the search
  pub stopped : (so_far found last : Option ℕ) (place : Option (Bor (List ℕ))) (here : Bor (List ℕ)) → place ≡ Some here
      → found ≡ unseen_in table sees packages name here.now → ends_in table sees packages wanted name here.now ≡ true → last ≡ later so_far found
      → searched last (Some (within here.now name)) ≡ search_in table sees packages wanted name so_far (scopes_at place)
  stopped so_far found last place here is upon ends so =
      ap (λ n. searched n (Some (within here.now name))) (so ∙ ap (later so_far) upon)
      ∙ ap (λ test. cond test (searched (later so_far (unseen_in table sees packages name here.now)) (Some (within here.now name))) (search_in table sees packages wanted name (later so_far (unseen_in table sees packages name here.now)) (scopes here.now))) (sym ends)
      ∙ ap (λ p. search_in table sees packages wanted name so_far (scopes_at p)) (sym is)

  -- no scope is left at a place
  pub at_top : (so_far found last : Option ℕ) (place : Option (Bor (List ℕ))) → place ≡ None → found ≡ unseen table sees packages name → last ≡ later so_far found
      → searched last None ≡ search_in table sees packages wanted name so_far (scopes_at place)
  at_top so_far found last place is upon so =
      ap (λ n. searched n None) (so ∙ ap (later so_far) upon) ∙ ap (λ p. search_in table sees packages wanted name so_far (scopes_at p)) (sym is)

  -- what all scopes give is what the search comes upon
  pub relative : (scope : List ℕ) (place : Option (Bor (List ℕ))) (answer : Searched) → is_absolute name ≡ false → scopes_at place ≡ searched_scopes scope → answer ≡ search_in table sees packages wanted name None (scopes_at place) → answer ≡ search table sees packages wanted name scope
  relative scope place answer no_dot from is =
      is ∙ ap (search_in table sees packages wanted name None) from
      ∙ ap (λ test. cond test (record { unseen = unseen table sees packages (drop 1 name); ended = None }) (search_in table sees packages wanted name None (searched_scopes scope))) (sym no_dot)
