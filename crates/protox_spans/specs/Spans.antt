-- Spans of numbers, and which of them meet.
use Rattle.std.specs.Prelude.{ℕ, ◌<◌, ◌≤◌, Bool, ◌&&◌, nat_lt, List, Option, position}
use Rattle.protox_spans.specs.declared.span.Span.{Span}

-- the number is in the span
pub record IsIn (n : ℕ) (s : Span) : Type 0 where
  pub from : s.start ≤ n
  pub before : n < s.end

-- The span has a number.
abbrev pub has_numbers : Span → Bool
has_numbers s = nat_lt s.start s.end

-- Two spans meet: both have numbers, and each begins before the other one ends.
abbrev pub meets : Span → Span → Bool
meets s t = (has_numbers s && has_numbers t) && (nat_lt s.start t.end && nat_lt t.start s.end)

-- the first span of the table that this one meets, counted from 0
abbrev pub first_met_in : List Span → Span → Option ℕ
first_met_in table s = position (meets s) table
