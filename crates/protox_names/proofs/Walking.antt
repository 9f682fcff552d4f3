-- A walk over the parts of a name finds what has the full name.
use Rattle.std.proofs.Common.{◌≡◌, ◌≢◌, ◌<◌, ℕ, true, List, [], ◌∷◌, ◌++◌, length, Option, Some, None, is_some, refl, sym, ap, subst, ◌∙◌, arith}
use Rattle.std.specs.Option.{option_and_then}
use Rattle.std.specs.List.{AllPass}
use Rattle.std.proofs.lemmas.Bool.{false≢true}
use Rattle.std.proofs.lemmas.List.Elements.{All-head, All-tail}
use Rattle.std.proofs.lemmas.List.Splits.{length-slice_split}
use Rattle.protox_names.specs.Names.{is_dot, is_identifier, is_one_part, joined, parts, within}
use Rattle.protox_names.specs.Tree.{FindsChildren, IsPlace, IsTree, PartsFindFullNames, name_of_place, walk}
use Rattle.protox_names.proofs.Joining.{name_of_parts, parts_have_no_dots, parts_within, within_nests}

some_is_not_none : (byte : ℕ) (rest : List ℕ) → byte ∷ rest ≢ []
some_is_not_none byte rest h = cc

-- ---- the parts of a name

some_parts_of : (name : List ℕ) → 0 < length (parts name)
some_parts_of name = omega (arith, length-slice_split is_dot name)

-- ---- parts of a name in a scope

abbrev Named : List (List ℕ) → Type 0
Named pieces = AllPass is_identifier pieces

right_parts : (left right : List (List ℕ)) → Named (left ++ right) → Named right
right_parts [] right h = h
right_parts (piece ∷ left) right h = right_parts left right (All-tail (λ p. is_identifier p ≡ true) piece (left ++ right) h)

-- the parts of the name are among those of the full name
inner_parts : (scope name : List ℕ) → Named (parts (within scope name)) → Named (parts name)
inner_parts [] name h = h
inner_parts (byte ∷ scope) name h =
    right_parts (parts (byte ∷ scope)) (parts name) (subst Named (parts_within (byte ∷ scope) name (λ e. some_is_not_none byte scope e)) h)

no_empty_part : (others : List (List ℕ)) → Named ([] ∷ others) → ⊥
no_empty_part others h = false≢true (All-head (λ p. is_identifier p ≡ true) [] others h)

within_some : (scope : List ℕ) (byte : ℕ) (name : List ℕ) → within scope (byte ∷ name) ≢ []
within_some [] byte name h = some_is_not_none byte name h
within_some (letter ∷ scope) byte name h = some_is_not_none letter (scope ++ 46 ∷ byte ∷ name) h

found_itself : (found : Option ℕ) → option_and_then (λ n. Some n) found ≡ found
found_itself None = refl
found_itself (Some n) = refl

-- ---- a walk

module _ (node : List ℕ → Option ℕ) (name_of : ℕ → List ℕ) (child : Option ℕ → List ℕ → Option ℕ) (tree : IsTree node name_of) (finds : FindsChildren node name_of child) where
  abbrev called : Option ℕ → List ℕ
  called place = name_of_place name_of place

  -- no node has this name
  none_if : (full_name : List ℕ) (found : Option ℕ) → node full_name ≡ found → ((n : ℕ) → node full_name ≡ Some n → ⊥) → None ≡ node full_name
  none_if full_name None is never = sym is
  none_if full_name (Some n) is never = absurd (never n is)

  none_unless : (full_name : List ℕ) → ((n : ℕ) → node full_name ≡ Some n → ⊥) → None ≡ node full_name
  none_unless full_name never = none_if full_name (node full_name) refl never

  -- nothing has a name with an empty part
  none_with_empty : (scope name : List ℕ) (others : List (List ℕ)) → parts name ≡ [] ∷ others → None ≡ node (within scope name)
  none_with_empty scope name others is =
      none_unless (within scope name) (λ n found. no_empty_part others (subst Named is (inner_parts scope name (tree.identifiers (within scope name) n found))))

  -- a node that was found is a place
  found_place : (full_name : List ℕ) (n : ℕ) → node full_name ≡ Some n → IsPlace node name_of (Some n)
  found_place full_name n found = ap node (tree.named full_name n found) ∙ found

  -- where nothing has the front of a name, nothing has the name
  none_behind : (scope name : List ℕ) → scope ≢ [] → node scope ≡ None → None ≡ node (within scope name)
  none_behind scope name named is =
      none_unless (within scope name) (λ n found. false≢true (sym (ap is_some is) ∙ tree.around scope name n named found))

  walk_from : (place : Option ℕ) (byte : ℕ) (part : List ℕ) (more : List (List ℕ)) (found : Option ℕ) → child place (byte ∷ part) ≡ found → node (within (called place) (byte ∷ part)) ≡ found → ((n : ℕ) → IsPlace node name_of (Some n) → walk child (Some n) more ≡ node (within (name_of n) (joined more))) → option_and_then (λ n. walk child (Some n) more) found ≡ node (within (called place) (within (byte ∷ part) (joined more)))
  walk_from place byte part more None by is further =
      none_behind (within (called place) (byte ∷ part)) (joined more) (within_some (called place) byte part) is
      ∙ ap node (within_nests (called place) (byte ∷ part) (joined more) (λ e. some_is_not_none byte part e))
  walk_from place byte part more (Some n) by is further =
      further n (found_place (within (called place) (byte ∷ part)) n is)
      ∙ ap (λ scope. node (within scope (joined more))) (tree.named (within (called place) (byte ∷ part)) n is)
      ∙ ap node (within_nests (called place) (byte ∷ part) (joined more) (λ e. some_is_not_none byte part e))

  walk_parts : (pieces : List (List ℕ)) (place : Option ℕ) → 0 < length pieces → AllPass is_one_part pieces → IsPlace node name_of place → walk child place pieces ≡ node (within (called place) (joined pieces))
  walk_parts [] place some alone is_place = absurd (omega arith)
  walk_parts (part ∷ []) place some alone is_place =
      found_itself (child place part) ∙ finds place part is_place (All-head (λ p. is_one_part p ≡ true) part [] alone)
  walk_parts ([] ∷ second ∷ more) place some alone is_place =
      ap (option_and_then (λ n. walk child (Some n) (second ∷ more))) (finds place [] is_place (All-head (λ p. is_one_part p ≡ true) [] (second ∷ more) alone) ∙ sym (none_with_empty (called place) [] [] refl))
      ∙ none_with_empty (called place) (46 ∷ joined (second ∷ more)) (parts (joined (second ∷ more))) refl
  walk_parts ((byte ∷ part) ∷ second ∷ more) place some alone is_place =
      let by = finds place (byte ∷ part) is_place (All-head (λ p. is_one_part p ≡ true) (byte ∷ part) (second ∷ more) alone) in
      walk_from place byte part (second ∷ more) (child place (byte ∷ part)) refl (sym by)
      (λ n is. walk_parts (second ∷ more) (Some n) (omega arith) (All-tail (λ p. is_one_part p ≡ true) (byte ∷ part) (second ∷ more) alone) is)

pub parts_find_full_names : PartsFindFullNames
parts_find_full_names node name_of child tree finds place name is_place =
    walk_parts node name_of child tree finds (parts name) place (some_parts_of name) (parts_have_no_dots name) is_place
    ∙ ap (λ n. node (within (name_of_place name_of place) n)) (name_of_parts name)
