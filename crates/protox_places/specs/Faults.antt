-- Where a fault stands in its source.
use Rattle.std.specs.Prelude.{ℕ, ◌-◌, ◌==◌, if◌then◌else◌, List, length, slice_index, Option, Some}
use Rattle.protox_fault.specs.Faults.{Span, span_from, span_of}
use Rattle.protox_fault.specs.declared.error.ParseErrorKind.{ParseErrorKind}
use Rattle.protox_fault.specs.declared.error.ParseErrorKind.TheVariants.{DuplicatePackage, UnexpectedEof}

-- the offset of a source's end; that of its last newline if the source ends with one
abbrev pub end_of : List ℕ → ℕ
end_of source = if slice_index source (length source - 1) == 10 then length source - 1 else length source

-- The span of a fault; the first if it has two. An unexpected end of the source has an empty span
-- there. A fault of the whole source has none.
abbrev pub first_place : List ℕ → ParseErrorKind → Option Span
first_place source (DuplicatePackage first second) = Some first
first_place source (UnexpectedEof expected) = Some (span_from (end_of source) (end_of source))
first_place source fault = span_of fault
