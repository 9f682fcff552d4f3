-- How reading goes on behind a statement that is refused.
use Rattle.std.specs.Prelude.{◌≡◌, ℕ, ◌-◌, false, nat_lt, if◌then◌else◌, List, [], ◌∷◌, ◌++◌, drop, length, Option, Some, None, Any}
use Rattle.protox_fault.specs.Faults.{Span, SpanLiesIn}
use Rattle.protox_fault.specs.declared.error.ParseErrorKind.{ParseErrorKind}
use Rattle.protox_fault.specs.declared.error.ParseErrorKind.TheVariants.{UnexpectedToken}
use Rattle.protox_lexeme.specs.Printed.{printed}
use Rattle.protox_lexeme.specs.Shapes.{Invalid, Row, Rows}
use Rattle.protox_lexeme.specs.Table.{Table}
use Rattle.protox_ast.proofs.Lemmas.{Stand}
use Rattle.protox_ast.specs.Basics.{Each}
use Rattle.protox_ast.specs.FaultList.{is_lexical}
use Rattle.protox_ast.specs.KeywordWalk.{Given}
use Rattle.protox_ast.specs.Places.{Place, placed}
use Rattle.protox_ast.specs.Truth.{is_terminator}
use Rattle.protox_grammar.specs.Told.{Notes}
use Rattle.protox_grammar.specs.declared.note.Note as note_type
use Rattle.protox_grammar.specs.declared.note.Noted.{Noted}
use Rattle.protox_grammar.specs.declared.note.Noted.TheVariants.{Fault, TextFormat}
use Rattle.protox_grammar.proofs.Lemmas.{AllLie}
use Rattle.protox_rows.specs.Expected.{words_of}
use Rattle.protox_rows.specs.declared.expected.Expected.{Expected}
use Rattle.protox_rows.specs.declared.refused.Refused.{Refused}
use Rattle.protox_rows.specs.declared.refused.Refused.TheVariants.{OutOfMemory, At, TooDeep}
pub use Rattle.protox_syntax.specs.AllFaults.{behind_block, from_statement, statement_words}
use Rattle.protox_syntax.specs.inner.Merge.{refusal, row_at}

-- ---- the rows that are skipped

-- the last `count` rows of a table
abbrev pub last_rows : Table → ℕ → Rows Place
last_rows t count = drop (length t.rows - count) (placed t)

-- the smaller of two numbers
abbrev pub at_most : ℕ → ℕ → ℕ
at_most most n = if nat_lt n most then n else most

-- The rows at which reading goes on behind a refused statement; at most `most` rows.
abbrev pub next_rows : Table → Refused → ℕ → Rows Place
next_rows t OutOfMemory most = last_rows t 0
next_rows t (At left expected) most = from_statement (last_rows t (at_most most left))
next_rows t (TooDeep left) most = from_statement (behind_block 0 (last_rows t (at_most most (left - 1))))

-- the rows are the last of a table
abbrev pub AreLast : Table → Rows Place → Type 0
AreLast t rows = (front : Rows Place) × (placed t ≡ front ++ rows)

-- ---- what is noted

-- a note of a fault, if there is one
abbrev pub fault_note : ℕ → Option ParseErrorKind → Notes
fault_note left None = []
fault_note left (Some wrong) = record { left = left; noted = Fault wrong } ∷ []

-- a note that what follows is outside any aggregate
abbrev pub plain_note : ℕ → Notes
plain_note left = record { left = left; noted = TextFormat false } ∷ []

-- the notes of a refusal: its fault, and that what follows is outside any aggregate
abbrev pub refusal_notes : ℕ → List ℕ → Rows Span → Notes
refusal_notes left expected rows = fault_note left (refusal expected (row_at rows left)) ++ plain_note left

-- These are the words. They don't name the end of a string or a comment.
abbrev pub IsSaid : Expected → List ℕ → Type 0
IsSaid expected text = (is_terminator text ≡ false) × (text ≡ words_of expected)

-- The first notes of a refused statement. They say what stands in the place of what is expected. A
-- body that is too deep has been noted already.
abbrev pub AreRefusalNotes : Rows Span → Refused → Notes → Type 0
AreRefusalNotes rows OutOfMemory notes = ⊥
AreRefusalNotes rows (At left expected) notes = (text : List ℕ) × IsSaid expected text × (notes ≡ refusal_notes left text rows)
AreRefusalNotes rows (TooDeep left) notes = notes ≡ plain_note (left - 1)

-- Faults that may be noted: an unexpected token that is one of the rows, or a fault that isn't
-- lexical.
abbrev pub IsNotable : Rows Span → ParseErrorKind → Type 0
IsNotable rows (UnexpectedToken span expected found) = Any (λ (r : Row Span). (r.at ≡ span) × (printed r.shape ≡ found) × (r.shape ≡ Invalid → ⊥)) rows
IsNotable rows wrong = is_lexical wrong ≡ false

-- the same of a note
abbrev pub IsNotableNote : Rows Span → Noted → Type 0
IsNotableNote rows (Fault wrong) = IsNotable rows wrong
IsNotableNote rows (TextFormat on) = Unit {0}

-- the same of all notes
abbrev pub AreNotable : Rows Span → Notes → Type 0
AreNotable rows notes = Each (λ (n : note_type.Note). IsNotableNote rows n.noted) notes

-- These notes are allowed, and their faults lie in the source if the place of the first package
-- statement does.
abbrev pub AreLater : Table → Option Span → Notes → Type 0
AreLater t first notes = AreNotable t.rows notes × ((size : ℕ) → Stand 0 size (placed t) → Given (SpanLiesIn size) first → AllLie size notes)

-- If the one place lies in the source, the other does.
abbrev pub LiesToo : Table → Option Span → Option Span → Type 0
LiesToo t first next = (size : ℕ) → Stand 0 size (placed t) → Given (SpanLiesIn size) first → Given (SpanLiesIn size) next

-- The place lies in each source in which the rows stand.
abbrev pub FirstLies : Rows Place → Option Span → Type 0
FirstLies rows first = (low size : ℕ) → Stand low size rows → Given (SpanLiesIn size) first

-- The notes behind a refused statement: first the refusal, then only allowed notes.
abbrev pub Recovers : Table → Refused → Option Span → Notes → Notes → Type 0
Recovers t refused first old new = (at_refusal : Notes) × (later : Notes) × (new ≡ old ++ (at_refusal ++ later)) × AreRefusalNotes t.rows refused at_refusal × AreLater t first later
