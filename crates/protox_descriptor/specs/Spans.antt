-- Where a span starts and ends, and which places it holds. A place is a line and a column, both
-- counted from 0.
use Rattle.std.specs.Prelude.{ℤ, Bool, false, ◌&&◌, List, [], ◌∷◌, Option, Some, None}
use Rattle.std.specs.declared.cmp.Ordering.{Ordering}
use Rattle.std.specs.Ordering.{int_cmp, is_le, is_lt, ordering_then}

-- The start of a span of three or four numbers: its first two.
abbrev pub start_of : List ℤ → Option (ℤ × ℤ)
start_of (line ∷ column ∷ _ ∷ []) = Some (line, column)
start_of (line ∷ column ∷ _ ∷ _ ∷ []) = Some (line, column)
start_of _ = None

-- The end of a span. Of four numbers it is the last two. Of three it is the last one, as a column
-- of the line where the span starts.
abbrev pub end_of : List ℤ → Option (ℤ × ℤ)
end_of (line ∷ _ ∷ column ∷ []) = Some (line, column)
end_of (_ ∷ _ ∷ line ∷ column ∷ []) = Some (line, column)
end_of _ = None

-- Compares two places by their order in a text: by line, then by column.
abbrev pub place_cmp : ℤ × ℤ → ℤ × ℤ → Ordering
place_cmp place other = ordering_then (int_cmp place.0 other.0) (int_cmp place.1 other.1)

-- Whether a place is at or after the start, and before the end. Without a start or an end it is
-- not.
abbrev pub is_within : ℤ × ℤ → Option (ℤ × ℤ) → Option (ℤ × ℤ) → Bool
is_within place (Some start) (Some end) = is_le (place_cmp start place) && is_lt (place_cmp place end)
is_within place _ _ = false
