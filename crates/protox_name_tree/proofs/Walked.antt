-- A name that is cut at its first dot, and looked for part by part.
use Rattle.std.proofs.Common.{◌≡◌, ◌<◌, ℕ, true, List, ◌∷◌, ◌++◌, length, Option, Some, refl, sym, ap, ◌∙◌, arith}
use Rattle.std.specs.Option.{option_and_then}
use Rattle.std.proofs.lemmas.List.{length-append}
use Rattle.std.proofs.lemmas.List.Splits.{slice_split_at}
use Rattle.protox_names.specs.Names.{is_dot, is_one_part, parts, within}
use Rattle.protox_names.specs.Tree.{name_of_place, walk}
use Rattle.protox_names.proofs.Lemmas.{no_dots, parts_find_full_names}
use Rattle.protox_name_tree.specs.Tree.{AreTreeNames, IsKnown, name_at_place, place_of_name}
use Rattle.protox_name_tree.proofs.FullNames.{is_place, is_tree}

-- ---- at the first dot

pub record IsCut (name part more : List ℕ) : Type 0 where
  pub parts_are : parts name ≡ part ∷ parts more
  pub one : is_one_part part ≡ true
  pub shorter : length more < length name

-- what stands before the first dot, and behind it
pub cut : (name part more : List ℕ) → is_one_part part ≡ true → name ≡ part ++ 46 ∷ more → IsCut name part more
cut name part more one is = record {
  parts_are = ap parts is ∙ slice_split_at is_dot part 46 more (no_dots part one) refl;
  one = one;
  shorter = omega (arith, ap length is, length-append part (46 ∷ more));
}

-- ---- part by part

-- what has a full name that a part makes in a place
abbrev pub child : List (List ℕ) → Option ℕ → List ℕ → Option ℕ
child names place part = place_of_name names (within (name_of_place (name_at_place names) place) part)

pub walk_finds : (names : List (List ℕ)) (place : Option ℕ) (name : List ℕ) → AreTreeNames names → IsKnown names place → walk (child names) place (parts name) ≡ child names place name
walk_finds names place name tree known =
    parts_find_full_names (place_of_name names) (name_at_place names) (child names) (is_tree names tree) (λ at part is one. refl) place name (is_place names place tree known)

-- one part further
pub walk_step : (names : List (List ℕ)) (place : Option ℕ) (name part more : List ℕ) (found : Option ℕ) → IsCut name part more → found ≡ child names place part → walk (child names) place (parts name) ≡ option_and_then (λ n. walk (child names) (Some n) (parts more)) found
walk_step names place name part more found at is =
    ap (walk (child names) place) at.parts_are ∙ ap (option_and_then (λ n. walk (child names) (Some n) (parts more))) (sym is)
