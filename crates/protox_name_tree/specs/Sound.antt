-- What holds of the parts of a tree of names.
use Rattle.std.specs.Prelude.{◌≡◌, ℕ, true, List, length, Option, Some}
use Rattle.std.specs.List.{slice_get}
use Rattle.protox_names.specs.Names.{is_identifier, within}
use Rattle.protox_names.specs.Tree.{name_of_place}
use Rattle.protox_name_tree.specs.Tree.{AreTreeNames, IsKnown, name_at_place}

-- What is found by this key has an identifier for its own name, and it is in a place of the tree.
-- From both comes its full name.
pub record IsNode (texts names : List (List ℕ)) (n : ℕ) (key : Option ℕ × ℕ) : Type 0 where
  pub own : List ℕ
  pub text : slice_get texts key.1 ≡ Some own
  pub identifier : is_identifier own ≡ true
  pub known : IsKnown names key.0
  pub full_name : slice_get names n ≡ Some (within (name_of_place (name_at_place names) key.0) own)

pub record IsSound (texts : List (List ℕ)) (keys : List (Option ℕ × ℕ)) (names : List (List ℕ)) : Type 0 where
  pub as_many : length keys ≡ length names
  pub node : (n : ℕ) (key : Option ℕ × ℕ) → slice_get keys n ≡ Some key → IsNode texts names n key
  pub tree : AreTreeNames names
