-- What the private functions say of sorted moves.
use Rattle.std.specs.Prelude.{◌≡◌, ℕ, ℤ, ◌<◌, ◌≤◌, true, false, Bool, ◌&&◌, List, [], ◌∷◌, length, slice_index_or}
use Rattle.std.specs.Cmp.Lexicographic.{slice_cmp}
use Rattle.std.specs.Ordering.{int_cmp, int_eq, is_lt}
use Rattle.protox_descriptor.specs.declared.descriptor.source_code_info.Location.{Location}
use Rattle.protox_moved.specs.declared.Move.{Move}

-- whether the one path comes before the other
abbrev pub is_before : List ℤ → List ℤ → Bool
is_before first second = is_lt (slice_cmp int_cmp first second)

-- whether the one location comes before the other
abbrev pub comes_before : Location → Location → Bool
comes_before one other = is_before one.path other.path

-- no move begins at a smaller path than one before it
abbrev pub AreByStart : List Move → Type 0
AreByStart moves = (i j : ℕ) (d : Move) → i ≤ j → j < length moves
    → is_before (slice_index_or moves j d).from (slice_index_or moves i d).from ≡ false

-- whether the path begins with these numbers
abbrev pub is_start : List ℤ → List ℤ → Bool
is_start [] path = true
is_start (m ∷ front) [] = false
is_start (m ∷ front) (n ∷ path) = int_eq m n && is_start front path

-- no move begins at or below the start of one before it
abbrev pub AreApart : List Move → Type 0
AreApart moves = (i j : ℕ) (d : Move) → i < j → j < length moves
    → is_start (slice_index_or moves i d).from (slice_index_or moves j d).from ≡ false
