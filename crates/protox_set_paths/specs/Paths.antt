-- Paths of field numbers that are set.
use Rattle.std.specs.Prelude.{ℕ, zero, suc, ◌==◌, ◌&&◌, Bool, true, false, List, [], ◌∷◌, Option, Some}
use Rattle.std.specs.List.{list_any, slice_get}

-- Whether a path begins with these numbers: it is equal to them, or goes on behind them.
abbrev pub begins_with : List ℕ → List ℕ → Bool
begins_with [] path = true
begins_with (m ∷ front) [] = false
begins_with (m ∷ front) (n ∷ path) = m == n && begins_with front path

-- Whether a path is set, where these were set: one of them begins with it. Who set a field of a
-- message has set the message, too.
abbrev pub is_set : List (List ℕ) → List ℕ → Bool
is_set paths path = list_any (begins_with path) paths

-- The place 0 is that of the empty path, from which all begin; the others are those of the paths.
abbrev pub path_of : List (List ℕ) → ℕ → Option (List ℕ)
path_of paths zero = Some []
path_of paths (suc k) = slice_get paths k
