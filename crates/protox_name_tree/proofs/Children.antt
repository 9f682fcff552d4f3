-- What has a name without dots in a place is found by its key.
use Rattle.std.proofs.Common.{◌≡◌, ℕ, true, List, get_or, Option, Some, None, sym, ap, ◌∙◌, arith}
use Rattle.std.specs.List.{slice_get}
use Rattle.std.proofs.lemmas.Option.{same_Some, slice_get-get_or, slice_get_within}
use Rattle.protox_names.specs.Names.{is_one_part, within}
use Rattle.protox_names.specs.Tree.{name_of_place}
use Rattle.protox_names.proofs.Lemmas.{full_names_differ, identifiers_are_one_part}
use Rattle.protox_name_tree.specs.Sound.{IsSound}
use Rattle.protox_name_tree.specs.Tree.{IsKnown, name_at_place, place_of_name}
use Rattle.protox_name_tree.proofs.FullNames.{found_name, same_place}
use Rattle.protox_name_tree.proofs.Numbering.{none_if_never, same_found}

module _ (texts : List (List ℕ)) (keys : List (Option ℕ × ℕ)) (names : List (List ℕ)) (sound : IsSound texts keys names) (place : Option ℕ) (known : IsKnown names place) (name : List ℕ) (one : is_one_part name ≡ true) where
  abbrev pub full : List ℕ
  full = within (name_of_place (name_at_place names) place) name

  pub child_there : (text n : ℕ) → slice_get texts text ≡ Some name → slice_get keys n ≡ Some (place, text) → place_of_name names full ≡ Some n
  child_there text n is key =
      let node = sound.node n (place, text) key in
      sound.tree.numbered.number_of full n
      (node.full_name ∙ ap (λ own. Some (within (name_of_place (name_at_place names) place) own)) (same_Some node.own name (sym node.text ∙ is)))

  pub child_back : (n : ℕ) → place_of_name names full ≡ Some n → (text : ℕ) × (slice_get texts text ≡ Some name) × (slice_get keys n ≡ Some (place, text))
  child_back n found =
      let at = found_name names full n found in
      let key = get_or keys n (None, 0) in
      let key_is = slice_get-get_or keys n (None, 0) (omega (arith, slice_get_within names n full at, sound.as_many)) in
      let node = sound.node n key key_is in
      let both = full_names_differ (name_of_place (name_at_place names) key.0) (name_of_place (name_at_place names) place) node.own name (identifiers_are_one_part node.own node.identifier) one (same_Some _ _ (sym node.full_name ∙ at)) in
      let same = same_place names key.0 place sound.tree node.known known both.0 in
      (key.1, node.text ∙ ap (λ own. Some own) both.1, key_is ∙ ap (λ p. Some (p, key.1)) same)

  -- no text is the name
  pub child_none : ((text : ℕ) → slice_get texts text ≡ Some name → ⊥) → None ≡ place_of_name names full
  child_none never =
      sym (none_if_never (place_of_name names full) (λ n found. let back = child_back n found in never back.0 back.1))

  -- the text has a number, and with it the key was looked for
  pub child_some : (text : ℕ) → slice_get texts text ≡ Some name → ((other : ℕ) → slice_get texts other ≡ Some name → other ≡ text) → (found : Option ℕ) → ((n : ℕ) → (found ≡ Some n → slice_get keys n ≡ Some (place, text)) × (slice_get keys n ≡ Some (place, text) → found ≡ Some n)) → found ≡ place_of_name names full
  child_some text is single found says =
      same_found found (place_of_name names full) (λ n h. child_there text n is ((says n).0 h))
      (λ n h. let back = child_back n h in (says n).1 (back.2 ∙ ap (λ t. Some (place, t)) (single back.0 back.1)))
