-- A tree of names, as those who use it see it: full names, each with a number and a kind.
use Rattle.std.specs.Prelude.{◌≡◌, ◌<◌, ◌+◌, ◌&&◌, ⊤, ℕ, Bool, true, List, [], ◌∷◌, ◌++◌, length, Contains, drop, Option, Some, None, is_some, position, if◌then◌else◌}
use Rattle.std.specs.List.{All, AllPass, slice_index_or}
use Rattle.std.specs.Str.{bytes_eq}
use Rattle.protox_names.specs.Names.{is_identifier, parts, scopes, within}
use Rattle.protox_names.specs.Tree.{name_of_place}
use Rattle.protox_scopes.specs.declared.kind.Kind.{Kind}
use Rattle.protox_scopes.specs.declared.kind.Kind.TheVariants.{Member}
use Rattle.protox_name_tree.specs.Numbered.{IsNumbering}

-- ---- full names

-- the place of a full name in the list
abbrev pub place_of_name : List (List ℕ) → List ℕ → Option ℕ
place_of_name names full_name = position (λ name. bytes_eq name full_name) names

-- the full name at a place; it is empty where there is none
abbrev pub name_at_place : List (List ℕ) → ℕ → List ℕ
name_at_place names n = slice_index_or names n []

-- What holds of the full names of a tree.
pub record AreTreeNames (names : List (List ℕ)) : Type 0 where
  -- none stands there twice
  pub numbered : IsNumbering (place_of_name names) names
  -- the parts of each are identifiers
  pub identifiers : All (λ name. AllPass is_identifier (parts name)) names
  -- the scopes around each are among them
  pub closed : All (λ name. All (Contains names) (scopes name)) names

-- ---- with kinds

-- The full name and the kind with number n stand at place n.
pub record Names : Type 0 where
  pub full_names : List (List ℕ)
  pub kinds : List Kind

pub record IsNameTree (tree : Names) : Type 0 where
  pub names : AreTreeNames tree.full_names
  pub each_kind : length tree.kinds ≡ length tree.full_names

-- the number of a full name, if the tree has it
abbrev pub number_of : Names → List ℕ → Option ℕ
number_of tree full_name = place_of_name tree.full_names full_name

-- the full name with a number; that of an unknown number is empty, as that of the top is
abbrev pub name_at : Names → ℕ → List ℕ
name_at tree n = name_at_place tree.full_names n

-- the kind with a number; an unknown number has that of what holds no names
abbrev pub kind_at : Names → ℕ → Kind
kind_at tree n = slice_index_or tree.kinds n Member

-- the top, or a number that the tree has
abbrev pub IsKnown : List (List ℕ) → Option ℕ → Type 0
IsKnown names None = ⊤
IsKnown names (Some n) = n < length names

-- the full name of what has this name in a place; in the nameless scope, if there is no number
abbrev pub name_in : Names → Option ℕ → List ℕ → List ℕ
name_in tree place name = within (name_of_place (name_at tree) place) name

-- The tree with one more full name. One that it has keeps its number and its kind.
abbrev pub with_name : Names → List ℕ → Kind → Names
with_name tree full_name kind =
    if is_some (number_of tree full_name) then tree
    else record { full_names = tree.full_names ++ full_name ∷ []; kinds = tree.kinds ++ kind ∷ [] }

-- ---- by full names

-- what a full name ends in, where these are the scopes around it
abbrev pub own_name : List ℕ → List (List ℕ) → List ℕ
own_name full_name [] = full_name
own_name full_name (scope ∷ outer) = drop (length scope + 1) full_name

-- the innermost scope, if there is one, is in the tree
abbrev pub has_innermost : Names → List (List ℕ) → Bool
has_innermost tree [] = true
has_innermost tree (scope ∷ outer) = is_some (number_of tree scope)

-- The full name can stand in the tree: its scope does, and what it ends in is an identifier.
abbrev pub can_stand : Names → List ℕ → Bool
can_stand tree full_name = has_innermost tree (scopes full_name) && is_identifier (own_name full_name (scopes full_name))

-- the tree with one more full name, if that can stand in it
abbrev pub with_declared : Names → List ℕ → Kind → Names
with_declared tree full_name kind = if can_stand tree full_name then with_name tree full_name kind else tree

-- the number of a full name that can stand in the tree
abbrev pub number_if_stands : Names → Names → List ℕ → Option ℕ
number_if_stands old new full_name = if can_stand old full_name then number_of new full_name else None

-- ---- part by part

-- What stands in this place under this name has the number.
pub record IsPart (tree : Names) (number : ℕ) (place : Option ℕ) (own : List ℕ) : Type 0 where
  pub within_tree : number < length tree.full_names
  pub known : IsKnown tree.full_names place
  pub identifier : is_identifier own ≡ true
  pub full_name : name_at tree number ≡ name_in tree place own

-- a dot, and the full name; nothing for the top, which has no name
abbrev pub dotted : List ℕ → List ℕ
dotted [] = []
dotted (byte ∷ name) = 46 ∷ byte ∷ name

-- the names in a row, from the last one on, with a dot before each
abbrev pub outwards : List (List ℕ) → List ℕ
outwards [] = []
outwards (name ∷ outer) = outwards outer ++ 46 ∷ name
