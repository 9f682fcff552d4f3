-- How the faults of a source stand as bytes: a record for each, one behind the other.
use Rattle.std.specs.Prelude.{ℕ, min, List, [], ◌++◌, length, Option, Some, None}
use Rattle.std.specs.Int.{w32, to_le_bytes}
use Rattle.std.specs.List.{flat_map}
use Rattle.protox_fault.specs.FaultNotes.{help_of, label_of, second_label_of}
use Rattle.protox_fault.specs.FaultTexts.{text_of}
use Rattle.protox_fault.specs.Faults.{Span, span_from}
use Rattle.protox_fault.specs.declared.error.ParseErrorKind.{ParseErrorKind}
use Rattle.protox_places.specs.Faults.{first_place}
use Rattle.protox_places.specs.Lines.{line, column}
use Rattle.protox_records.specs.Kinds.{kind_of}

-- A number: four bytes, the lowest first. Of one that four bytes cannot hold the lowest four stand.
unfoldable pub number : ℕ → List ℕ
number n = to_le_bytes w32 n

-- a text: how many bytes it has, and then its bytes
abbrev pub counted : List ℕ → List ℕ
counted text = number (length text) ++ text

-- the line and the column of an offset, both from 0, columns in bytes
abbrev pub position : List ℕ → ℕ → List ℕ
position source offset = number (line source (min offset (length source))) ++ number (column source (min offset (length source)))

-- a place: the offsets in bytes of its start and of its end, then line and column of its start
abbrev pub place : List ℕ → Span → List ℕ
place source span = (number span.start ++ number span.end) ++ position source span.start

-- the place of a fault, the first where it has two; that of a fault of the whole source is empty, at its start
abbrev pub place_of : List ℕ → ParseErrorKind → Span
place_of source fault = elim (first_place source fault) [ None ↦ span_from 0 0 | Some span ↦ span ]

-- the label at that place, and what may help; the empty text where there is none
abbrev pub label_text : ParseErrorKind → List ℕ
label_text fault = elim (label_of fault) [ None ↦ [] | Some label ↦ label ]

abbrev pub help_text : ParseErrorKind → List ℕ
help_text fault = elim (help_of fault) [ None ↦ [] | Some help ↦ help ]

-- how many second places there are, 0 or 1, and then that place and its label
abbrev pub second_part : List ℕ → Option (Span × List ℕ) → List ℕ
second_part source None = number 0
second_part source (Some second) = number 1 ++ (place source second.0 ++ counted second.1)

-- The record of a fault: the number of its kind, its place, what is wrong, the label there, what may help, and its second place.
abbrev pub record_of : List ℕ → ParseErrorKind → List ℕ
record_of source fault =
    number (kind_of fault) ++ (place source (place_of source fault) ++ (counted (text_of fault)
    ++ (counted (label_text fault) ++ (counted (help_text fault) ++ second_part source (second_label_of fault)))))

-- the records of all
abbrev pub records : List ℕ → List ParseErrorKind → List ℕ
records source faults = flat_map (record_of source) faults
