-- What an entry stands in is an entry.
use Rattle.std.proofs.Common.{◌≡◌, ℕ, Bool, true, List, [], ◌∷◌, get_or, MatchOption, Option, Some, None, bytes_eq, is_some, slice_get, string_bytes, refl, sym, ap, ◌∙◌}
use Rattle.std.specs.Option.{option_map, unwrap_or}
use Rattle.std.specs.List.{list_all, position}
use Rattle.std.proofs.lemmas.Bool.{false≢true}
use Rattle.std.proofs.lemmas.List.Quantifiers.{position-Some}
use Rattle.std.proofs.lemmas.List.Sums.{AllPass-from_list_all}
use Rattle.std.proofs.lemmas.Option.{get_or_from_slice_get, slice_get-get_or, slice_get_within}
use Rattle.std.proofs.lemmas.Slice.Eq.{bytes_eq-Decides}
use Rattle.protox_names.specs.Names.{scopes}
use Rattle.scopecases.specs.Listed.{place_of}
use Rattle.scopecases.specs.Nested.{innermost_is_listed, is_nested, name_at, stands_in_listed}
use Rattle.scopecases.specs.declared.listed.Entry.{Entry}
use Rattle.scopecases.specs.declared.listed.Listed.{Listed}

-- an element that passes the test
record IsFound (test : Entry → Bool) (entries : List Entry) (place : ℕ) : Type 0 where
  entry : Entry
  stands : slice_get entries place ≡ Some entry
  passes : test entry ≡ true

none_is_not_some : {A : Type 0} (found : Option ℕ) (place : ℕ) → found ≡ None → found ≡ Some place → A
none_is_not_some found place none some = cc

found_at : (test : Entry → Bool) (entries : List Entry) (place : ℕ) → position test entries ≡ Some place → IsFound test entries place
found_at test [] place h = none_is_not_some (position test []) place refl h
found_at test (first ∷ more) place h =
    let found = position-Some test (first ∷ more) place first h in
    record { entry = get_or (first ∷ more) place first; stands = slice_get-get_or (first ∷ more) place first found.0; passes = found.1 }

passes_at : (test : Entry → Bool) (entries : List Entry) (place : ℕ) (entry : Entry) → list_all test entries ≡ true → slice_get entries place ≡ Some entry → test entry ≡ true
passes_at test entries place entry all stands =
    sym (ap test (get_or_from_slice_get entries place entry entry stands))
    ∙ AllPass-from_list_all test entries all place entry (slice_get_within entries place entry stands)

abbrev name_in : Option Entry → List ℕ
name_in entry = unwrap_or (option_map (λ e. string_bytes e.full_name) entry) []

module _ (listed : Listed) where
  -- what is found under a name has the name
  named : (name : List ℕ) (place : ℕ) → place_of listed name ≡ Some place → name_at listed place ≡ name
  named name place h =
      let found = found_at (λ entry. bytes_eq (string_bytes entry.full_name) name) listed.entries.items place h in
      ap name_in found.stands ∙ (bytes_eq-Decides (string_bytes found.entry.full_name) name).0 found.passes

  nothing_around : {A : Type 0} (around : List ℕ) (outer : List (List ℕ)) → [] ≡ around ∷ outer → A
  nothing_around around outer h = cc

  around_from : (place : ℕ) (around : List ℕ) (outer : List (List ℕ)) (entry : Option Entry) → slice_get listed.entries.items place ≡ entry → is_nested listed ≡ true → scopes (name_in entry) ≡ around ∷ outer → is_some (place_of listed around) ≡ true
  around_from place around outer None stands nested h = nothing_around around outer h
  around_from place around outer (Some entry) stands nested h =
      sym (ap (innermost_is_listed listed) h) ∙ passes_at (stands_in_listed listed) listed.entries.items place entry nested stands

  outer_by : (place : ℕ) (around : List ℕ) (found : Option ℕ) → place_of listed around ≡ found → is_some (place_of listed around) ≡ true → scopes (name_at listed place) ≡ around ∷ scopes around → MatchOption found (scopes (name_at listed place) ≡ []) (λ o. scopes (name_at listed place) ≡ name_at listed o ∷ scopes (name_at listed o))
  outer_by place around None is some h = absurd (false≢true (sym (ap is_some is) ∙ some))
  outer_by place around (Some o) is some h = h ∙ ap (λ n. n ∷ scopes n) (sym (named around o is))

  -- what is found under the name of the scope around is the outer scope
  pub outer_listed : (place : ℕ) (around : List ℕ) (found : Option ℕ) → is_nested listed ≡ true → found ≡ place_of listed around → scopes (name_at listed place) ≡ around ∷ scopes around → MatchOption found (scopes (name_at listed place) ≡ []) (λ o. scopes (name_at listed place) ≡ name_at listed o ∷ scopes (name_at listed o))
  outer_listed place around found nested is h =
      outer_by place around found (sym is) (around_from place around (scopes around) (slice_get listed.entries.items place) refl nested h) h
