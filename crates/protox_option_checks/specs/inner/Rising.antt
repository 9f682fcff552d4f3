-- Spans one behind another.
use Rattle.std.specs.Prelude.{ℕ, ◌<◌, ◌≤◌, List, length, slice_index_or}
use Rattle.protox_spans.specs.declared.span.Span.{Span}

-- Each begins where those before it end, or behind.
abbrev pub AreRising : List Span → Type 0
AreRising spans =
    (i j : ℕ) (d : Span) → i < j → j < length spans → (slice_index_or spans i d).end ≤ (slice_index_or spans j d).start
