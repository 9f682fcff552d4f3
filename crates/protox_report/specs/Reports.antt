-- The text of the report of a fault.
use Rattle.std.specs.Prelude.{ℕ, ◌≡◌, ◌+◌, ◌-◌, ◌==◌, min, max, Bool, true, false, MatchOption, if◌then◌else◌, List, [], ◌++◌, codes, length, replicate, Some, None}
use Rattle.std.specs.Fmt.{decimal}
use Rattle.protox_fault.specs.FaultNotes.{help_of, label_of, second_label_of}
use Rattle.protox_fault.specs.Faults.{Span, span_from, span_of}
use Rattle.protox_fault.specs.FaultTexts.{text_of}
use Rattle.protox_fault.specs.declared.error.ParseErrorKind.{ParseErrorKind}
use Rattle.protox_fault.specs.declared.error.ParseErrorKind.TheVariants.{DuplicatePackage, FileTooLarge, UnexpectedEof}
use Rattle.protox_places.specs.Faults.{end_of}
use Rattle.protox_places.specs.Lines.{line, column}
use Rattle.protox_report.specs.Excerpts.{IsExcerpt}
use Rattle.protox_report.specs.Shown.{shown, under}
use Rattle.protox_report.specs.declared.excerpt.Excerpt.{Excerpt}
use Rattle.protox_report.specs.declared.paint.Paint.{Paint}

-- The offset at which a fault is reported: the start of its span; of the second if it has two; the
-- end of the source if that comes too early. A fault of the whole source is reported at 0.
abbrev pub place_in : List ℕ → ParseErrorKind → ℕ
place_in source (DuplicatePackage first second) = second.start
place_in source (UnexpectedEof expected) = end_of source
place_in source fault = elim (span_of fault) [ None ↦ 0 | Some span ↦ span.start ]

-- `:LINE:COLUMN:`
abbrev pub place_text : ℕ → ℕ → List ℕ
place_text line column = codes ":" ++ (decimal line ++ (codes ":" ++ (decimal column ++ codes ":")))

-- `:LINE:COLUMN:` of the place at which a fault is reported, both from 1
abbrev pub position_text : List ℕ → ParseErrorKind → List ℕ
position_text source fault =
    place_text (line source (min (place_in source fault) (length source)) + 1) (column source (min (place_in source fault) (length source)) + 1)

-- `FILE:LINE:COLUMN: text`
abbrev pub title : Paint → List ℕ → List ℕ → ParseErrorKind → List ℕ
title paint name source fault =
    paint.place.now ++ (shown name ++ (position_text source fault ++ (paint.end.now ++ (codes " " ++ (shown (text_of fault) ++ codes "\n")))))

-- `:LINE:COLUMN:` of an offset, both from 1
abbrev pub position_at : List ℕ → ℕ → List ℕ
position_at source offset =
    place_text (line source (min offset (length source)) + 1) (column source (min offset (length source)) + 1)

-- `FILE:LINE:COLUMN: text`, of any text at an offset
abbrev pub title_at : Paint → List ℕ → List ℕ → ℕ → List ℕ → List ℕ
title_at paint name source offset text =
    paint.place.now ++ (shown name ++ (position_at source offset ++ (paint.end.now ++ (codes " " ++ (shown text ++ codes "\n")))))

-- the dots for a part that is left out
abbrev pub dots : Bool → List ℕ
dots cut = if cut then codes "..." else []

-- the blanks below the dots
abbrev pub below_dots : Bool → List ℕ
below_dots cut = if cut then codes "   " else []

-- the number, from 1, of the line in which a span starts
abbrev pub number_of : List ℕ → Span → List ℕ
number_of source span = decimal (line source (min span.start (length source)) + 1)

-- a number, to the right in five columns
abbrev pub numbered : List ℕ → List ℕ
numbered number = replicate (5 - length number) 32 ++ number

-- the blanks below a number
abbrev pub below : List ℕ → List ℕ
below number = replicate (max 5 (length number)) 32

-- the line of the source that is shown, with its number
abbrev pub excerpt_line : List ℕ → Excerpt → List ℕ
excerpt_line number e =
    numbered number ++ (codes " | " ++ (dots e.cut_before ++ (shown e.before.now ++ (shown e.marked.now ++ (shown e.behind.now ++ (dots e.cut_behind ++ codes "\n"))))))

-- a label after a blank; nothing if the label is empty
abbrev pub behind_blank : List ℕ → List ℕ
behind_blank label = if length label == 0 then [] else codes " " ++ label

-- `^` under each column of a text; one `^` if the text is empty
abbrev pub carets : List ℕ → List ℕ
carets text = if length text == 0 then codes "^" else under 94 text

-- the line below it: `^` under the span, and the label
abbrev pub excerpt_marks : Paint → List ℕ → Excerpt → List ℕ → List ℕ
excerpt_marks paint number e label =
    below number ++ (codes " | " ++ (below_dots e.cut_before ++ (under 32 e.before.now ++ (paint.mark.now ++ (carets e.marked.now ++ (behind_blank label
    ++ (paint.end.now ++ codes "\n")))))))

-- both lines of an excerpt
abbrev pub excerpt_lines : Paint → List ℕ → Excerpt → List ℕ → List ℕ
excerpt_lines paint number e label = excerpt_line number e ++ excerpt_marks paint number e label

-- the help of a fault; the empty text if there is none
abbrev pub help_text : ParseErrorKind → List ℕ
help_text fault = elim (help_of fault) [ None ↦ [] | Some help ↦ help ]

-- the line of a help
abbrev pub help_line : List ℕ → List ℕ
help_line help = replicate 5 32 ++ (codes " = help: " ++ (shown help ++ codes "\n"))

-- the line of a help; nothing if the help is empty
abbrev pub help_if : List ℕ → List ℕ
help_if help = if length help == 0 then [] else help_line help

-- the text is the two lines that show where a span starts
pub record IsExcerptOf (source : List ℕ) (paint : Paint) (span : Span) (label text : List ℕ) : Type 0 where
  pub e : Excerpt
  pub shows : IsExcerpt source span e
  pub lines : text ≡ excerpt_lines paint (number_of source span) e label

-- These two lines are added to the text.
pub record Tells (source : List ℕ) (paint : Paint) (span : Span) (label old new : List ℕ) : Type 0 where
  pub text : List ℕ
  pub behind : new ≡ old ++ text
  pub shows : IsExcerptOf source paint span label text

-- The fault has a place in the source. Only `FileTooLarge` has none.
abbrev pub has_place : ParseErrorKind → Bool
has_place FileTooLarge = false
has_place fault = true

-- the span of a fault; the first if it has two
abbrev pub first_place : List ℕ → ParseErrorKind → Span
first_place source (DuplicatePackage first second) = first
first_place source fault = elim (span_of fault) [ None ↦ span_from (place_in source fault) (place_in source fault) | Some span ↦ span ]

-- the label at that span; the empty text if there is none
abbrev pub label_text : ParseErrorKind → List ℕ
label_text fault = elim (label_of fault) [ None ↦ [] | Some label ↦ label ]

-- The lines that show the fault's place are added to the text. If it has a second place, the lines
-- for that come next.
pub record AreShown (source : List ℕ) (paint : Paint) (fault : ParseErrorKind) (old new : List ℕ) : Type 0 where
  pub middle : List ℕ
  pub first : Tells source paint (first_place source fault) (label_text fault) old middle
  pub second : MatchOption (second_label_of fault) (new ≡ middle) (λ s. Tells source paint s.0 s.1 middle new)

-- The lines that show the fault's places are added to the text, if it has a place. Otherwise nothing
-- is added.
abbrev pub AreTold : List ℕ → Paint → ParseErrorKind → List ℕ → List ℕ → Type 0
AreTold source paint fault old new = elim (has_place fault) as (λ _. Type 0) [ true ↦ AreShown source paint fault old new | false ↦ new ≡ old ]

-- The report of a fault is added to the text: its title, the lines of the source, and its help.
pub record IsReported (name source : List ℕ) (paint : Paint) (fault : ParseErrorKind) (old new : List ℕ) : Type 0 where
  pub told : List ℕ
  pub excerpts : AreTold source paint fault (old ++ title paint name source fault) told
  pub helped : new ≡ told ++ help_if (help_text fault)

-- The report of any text at a span is added: its title, and the lines that show the span.
pub record IsTextReported (name source : List ℕ) (paint : Paint) (span : Span) (text old new : List ℕ) : Type 0 where
  pub excerpt : Tells source paint span [] (old ++ title_at paint name source span.start text) new
