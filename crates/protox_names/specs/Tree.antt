-- Full names that are found part by part, in a tree.
use Rattle.std.specs.Prelude.{◌≡◌, ◌≢◌, ⊤, ℕ, true, List, [], ◌∷◌, Option, Some, None, IsSome, option_and_then}
use Rattle.std.specs.List.{AllPass}
use Rattle.protox_names.specs.Names.{is_identifier, is_one_part, parts, within}

-- what is found by one part after another, from a place on; no place is the top of the tree
abbrev pub walk : (Option ℕ → List ℕ → Option ℕ) → Option ℕ → List (List ℕ) → Option ℕ
walk child place [] = place
walk child place (part ∷ more) = option_and_then (λ found. walk child (Some found) more) (child place part)

-- the full name of a place; that of the top is empty
abbrev pub name_of_place : (ℕ → List ℕ) → Option ℕ → List ℕ
name_of_place name_of None = []
name_of_place name_of (Some n) = name_of n

-- `node` tells what a full name is in the tree, and `name_of` the full name of a node.
module _ (node : List ℕ → Option ℕ) (name_of : ℕ → List ℕ) where
  -- A node has the full name by which it is found. The parts of that name are identifiers. What a
  -- node stands in is a node.
  pub record IsTree : Type 0 where
    pub named : (full_name : List ℕ) (n : ℕ) → node full_name ≡ Some n → name_of n ≡ full_name
    pub identifiers : (full_name : List ℕ) (n : ℕ) → node full_name ≡ Some n → AllPass is_identifier (parts full_name)
    pub around : (scope name : List ℕ) (n : ℕ) → scope ≢ [] → node (within scope name) ≡ Some n → IsSome (node scope)

  -- the top, or a node that is found by its name
  abbrev pub IsPlace : Option ℕ → Type 0
  IsPlace None = ⊤
  IsPlace (Some n) = node (name_of n) ≡ Some n

  -- `child` finds what has a name without dots in a place.
  abbrev pub FindsChildren : (Option ℕ → List ℕ → Option ℕ) → Type 0
  FindsChildren child = (place : Option ℕ) (part : List ℕ) → IsPlace place → is_one_part part ≡ true → child place part ≡ node (within (name_of_place name_of place) part)

-- In a tree, a walk over the parts of a name finds what has the full name.
abbrev pub PartsFindFullNames : Type 0
PartsFindFullNames = (node : List ℕ → Option ℕ) (name_of : ℕ → List ℕ) (child : Option ℕ → List ℕ → Option ℕ) → IsTree node name_of → FindsChildren node name_of child → (place : Option ℕ) (name : List ℕ) → IsPlace node name_of place → walk child place (parts name) ≡ node (within (name_of_place name_of place) name)
