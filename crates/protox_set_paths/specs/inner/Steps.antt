-- Steps in a tree of paths. A step goes from a place by a number.
use Rattle.std.specs.Prelude.{◌≡◌, ℕ, List, [], ◌∷◌, ◌++◌, Option, Some, fold}
use Rattle.std.specs.List.{slice_get}
use Rattle.std.specs.Option.{unwrap_or}
use Rattle.std.specs.Ordering.{nat_cmp, ordering_then}
use Rattle.std.specs.declared.cmp.Ordering.{Ordering}
use Rattle.protox_set_paths.specs.Paths.{path_of}

-- the order of the steps
abbrev pub step_cmp : ℕ × ℕ → ℕ × ℕ → Ordering
step_cmp one other = ordering_then (nat_cmp one.0 other.0) (nat_cmp one.1 other.1)

-- the path that a step leads to, where the places have these paths
abbrev pub path_behind : List (List ℕ) → ℕ × ℕ → List ℕ
path_behind paths step = unwrap_or (path_of paths step.0) [] ++ step.1 ∷ []

-- The paths that steps lead to. Each step goes from a place that was there before it.
abbrev pub paths_of : List (ℕ × ℕ) → List (List ℕ)
paths_of steps = fold (λ paths step. paths ++ path_behind paths step ∷ []) [] steps

-- A step leads from the place of a path to that of the path with one number more. Each path is
-- reached so from that of its numbers but the last, and no path but that of the place 0 is empty.
pub record IsTree (next : ℕ × ℕ → Option ℕ) (paths : List (List ℕ)) : Type 0 where
  pub leads : (from number to : ℕ) → next (from, number) ≡ Some to
      → (path : List ℕ) × (path_of paths from ≡ Some path) × (path_of paths to ≡ Some (path ++ number ∷ []))
  pub reached : (to : ℕ) (path : List ℕ) (number : ℕ) → path_of paths to ≡ Some (path ++ number ∷ [])
      → (from : ℕ) × (path_of paths from ≡ Some path) × (next (from, number) ≡ Some to)
  pub none_empty : (k : ℕ) → slice_get paths k ≡ Some [] → ⊥
