-- Spans meet where they share a number.
use Rattle.std.specs.Prelude.{ℕ, ◌≡◌, ◌↔◌, true}
use Rattle.protox_spans.specs.declared.span.Span.{Span}
use Rattle.protox_spans.specs.Spans.{IsIn, meets}

-- Two spans meet exactly if a number is in both.
abbrev pub MeetingIsSharing : Type 0
MeetingIsSharing = (s t : Span) → (meets s t ≡ true) ↔ ((n : ℕ) × IsIn n s × IsIn n t)
