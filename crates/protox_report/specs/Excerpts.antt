-- Which part of a line of the source is shown with a fault.
use Rattle.std.specs.Prelude.{ℕ, ◌≡◌, ◌≢◌, ◌+◌, ◌-◌, ◌<◌, ◌≤◌, ◌==◌, ◌&&◌, ◌||◌, not, nat_lt, max, if◌then◌else◌, Bool, false, List, length, slice_index, slice_range}
use Rattle.std.specs.Str.{IsCharBoundary}
use Rattle.protox_fault.specs.Faults.{Span}
use Rattle.protox_report.specs.declared.excerpt.Excerpt.{Excerpt}

-- A line ends at this byte: it is a newline, or a carriage return before one.
abbrev pub ends_line : List ℕ → ℕ → Bool
ends_line source at = (slice_index source at == 10) || ((slice_index source at == 13) && (slice_index source (at + 1) == 10))

-- A line begins at this byte: the first of the source, or one right behind a newline.
abbrev pub begins_line : List ℕ → ℕ → Bool
begins_line source at = (at == 0) || (slice_index source (at - 1) == 10)

-- The line may be shown from `from` to `start`: `from` begins a character, no newline stands
-- between, and these are at most 120 bytes.
pub record IsBefore (source : List ℕ) (start from : ℕ) : Type 0 where
  pub at_character : IsCharBoundary source from
  pub before : from ≤ start
  pub near : start ≤ from + 120
  pub one_line : (k : ℕ) → from ≤ k → k < start → slice_index source k ≢ 10

-- It is the first such place, so that as much as allowed is shown.
pub record IsFirst (source : List ℕ) (start from : ℕ) : Type 0 where
  pub may : IsBefore source start from
  pub first : (other : ℕ) → IsBefore source start other → from ≤ other

-- The line may be shown from `start` to `to`: `to` begins a character, the line doesn't end
-- between, these are at most 120 bytes, and `to` isn't past `end`.
pub record IsBehind (source : List ℕ) (start end to : ℕ) : Type 0 where
  pub at_character : IsCharBoundary source to
  pub behind : start ≤ to
  pub near : to ≤ start + 120
  pub within : to ≤ end
  pub one_line : (k : ℕ) → start ≤ k → k < to → ends_line source k ≡ false

-- It is the last such place.
pub record IsLast (source : List ℕ) (start end to : ℕ) : Type 0 where
  pub may : IsBehind source start end to
  pub last : (other : ℕ) → IsBehind source start end other → other ≤ to

-- `place` begins the last character that begins at `at` or before it.
pub record IsFloor (source : List ℕ) (at place : ℕ) : Type 0 where
  pub at_character : IsCharBoundary source place
  pub before : place ≤ at
  pub last : (other : ℕ) → other ≤ at → IsCharBoundary source other → other ≤ place

-- What is shown of the line in which a span starts: the parts before, in and behind the span, each
-- as long as allowed, and whether the line has more before or behind. If the span is cut, nothing
-- behind it is shown.
pub record IsExcerpt (source : List ℕ) (span : Span) (e : Excerpt) : Type 0 where
  pub from : ℕ
  pub start : ℕ
  pub last : ℕ
  pub reach : ℕ
  pub end : ℕ
  pub limit : ℕ
  pub to : ℕ
  pub starts : IsFloor source span.start start
  pub lasts : IsFloor source span.end last
  pub reaches : reach ≡ max last start
  pub from_first : IsFirst source start from
  pub end_last : IsLast source start reach end
  pub limits : limit ≡ (if nat_lt end reach then end else length source)
  pub to_last : IsLast source end limit to
  pub before : e.before.now ≡ slice_range source from start
  pub marked : e.marked.now ≡ slice_range source start end
  pub behind : e.behind.now ≡ slice_range source end to
  pub cut_before : e.cut_before ≡ not (begins_line source from)
  pub cut_behind : e.cut_behind ≡ (nat_lt to (length source) && not (ends_line source to))
