-- What reading a table of tokens gives.
use Rattle.std.specs.Prelude.{◌≡◌, ℕ, ◌+◌, List, [], ◌∷◌, ◌++◌, length, map, Option, Some, None, option_map, option_to_list, Result, Ok, Err}
use Rattle.std.specs.Str.{IsUtf8}
use Rattle.protox_fault.specs.Faults.{Span, LiesIn}
use Rattle.protox_lexeme.specs.Shapes.{Row, Rows}
use Rattle.protox_lexeme.specs.Lexemes.{cut}
use Rattle.protox_lexeme.specs.Table.{Table, table_of}
use Rattle.protox_fault.specs.declared.error.ParseErrorKind.{ParseErrorKind}
use Rattle.protox_fault.specs.declared.error.SyntaxFailure.{SyntaxFailure}
use Rattle.protox_fault.specs.declared.error.SyntaxFailure.TheVariants.{Faults, OutOfMemory}
use Rattle.protox_ast.specs.Accepted.{Fits}
use Rattle.protox_ast.specs.Ast as ast
use Rattle.protox_ast.specs.AstParts.{join, last_place, rows_span}
use Rattle.protox_ast.specs.Keywords.{Each}
use Rattle.protox_ast.specs.Places.{Place, placed}
use Rattle.protox_ast.specs.Tree as tree
use Rattle.protox_ast.specs.declared.ast.Comments.{Comments}
use Rattle.protox_ast.specs.declared.ast.Syntax.{Syntax}
use Rattle.protox_ast.specs.declared.ast.Syntax.TheVariants.{Proto2}
use Rattle.protox_ast.specs.declared.ast.File.{File}
use Rattle.protox_grammar.specs.Reader.{Unexpected}
use Rattle.protox_grammar.specs.Reads.{read}
use Rattle.protox_grammar.specs.Told.{Notes}
use Rattle.protox_rows.specs.inner.Outcome.{Fails}
use Rattle.protox_rows.specs.inner.Words.{SaysOf}
use Rattle.protox_rows.specs.declared.refused.Refused.{Refused}
use Rattle.protox_syntax.specs.AllFaults.{faults_of_table, unworded}
use Rattle.protox_syntax.specs.inner.Recovery.{AreNotable, AreRefusalNotes, IsSaid}
use Rattle.protox_syntax.specs.inner.Statements.{levels, syntax_if_any}
use Rattle.protox_syntax.specs.inner.Whole.{Whole, whole, all_notes}
use Rattle.protox_syntax.specs.inner.Words as said
use Rattle.protox_syntax.specs.inner.Merge.{refusal, row_at, merged_faults}

-- This is the table of some UTF-8 source of `size` bytes, which fits the length limit.
abbrev pub IsTableOf : ℕ → Table → Type 0
IsTableOf size t = (source : List ℕ) × IsUtf8 source × (length source ≡ size) × (t ≡ table_of (cut 0 source)) × Fits source

-- the span from the first row to the last, without the comments around them
abbrev pub bare_span : ℕ → Rows Span → Span
bare_span size [] = record { start = size; end = 0 }
bare_span size (r ∷ rs) = join r.at (last_place (λ (x : Row Span). x.at) r.at rs)

-- the syntax that is read; proto2 if there is no syntax statement
abbrev pub syntax_or_default : Option (Syntax × (Span × Comments)) → Syntax
syntax_or_default None = Proto2
syntax_or_default (Some s) = s.0

-- where the syntax statement stands
abbrev pub syntax_place : Syntax × (Span × Comments) → Span × Comments
syntax_place s = s.1

-- the syntax tree of the file that was read
abbrev pub built_file : ℕ → Rows Place → Whole → File
built_file size rows x = record {
  span = rows_span size rows;
  syntax = syntax_or_default x.0;
  syntax_span = option_map syntax_place x.0;
  «package» = x.1.first;
  imports = x.1.imports;
  options = x.1.options;
  items = x.1.items;
}

-- all faults of the rows, and those noted at nodes among them
abbrev pub all_faults : Table → List ParseErrorKind
all_faults t = merged_faults t.faults (length t.rows + 1) (all_notes (placed t)) 0

-- The rows are those of this file, and there is no fault.
abbrev pub IsWhole : Table → tree.File Place → Type 0
IsWhole t f = (read levels (placed t) ≡ Ok f) × (all_faults t ≡ [])

-- the number of rows, with the end of the source as one
abbrev pub total_of : Table → ℕ
total_of t = length t.rows + 1

-- how many rows are left at the first note
abbrev pub rows_left_at_first_note : Notes → ℕ
rows_left_at_first_note [] = 0
rows_left_at_first_note (n ∷ ns) = n.left

-- How the list of faults came about, by how reading ended.
pub data AreMergedFaults (t : Table) (errors : List ParseErrorKind) : Type 0 where
  -- A check of the syntax statement failed: nothing is read behind it.
  unknown_syntax : (syntax_if_any.notes (placed t) ≡ [] → ⊥) → errors ≡ merged_faults t.faults (total_of t) (syntax_if_any.notes (placed t)) (rows_left_at_first_note (syntax_if_any.notes (placed t))) → AreMergedFaults t errors
  -- A row doesn't fit, and nothing is read behind it.
  unexpected_row : (left : ℕ) (text : List ℕ) → IsSaid (said.whole (placed t)) text → whole (placed t) ≡ Err (Unexpected left)
      → errors ≡ merged_faults t.faults (total_of t) (all_notes (placed t)) left ++ option_to_list (refusal text (row_at t.rows left)) → AreMergedFaults t errors
  -- A statement is refused, and reading goes on behind it.
  refused_statement : (refused : Refused) (at_refusal later : Notes) → Fails refused (whole (placed t)) → SaysOf refused (said.whole (placed t)) → AreRefusalNotes t.rows refused at_refusal → AreNotable t.rows later
      → errors ≡ merged_faults t.faults (total_of t) (all_notes (placed t) ++ (at_refusal ++ later)) 0 → AreMergedFaults t errors
  -- All rows are read.
  all_read : (x : Whole) → whole (placed t) ≡ Ok (x, []) → errors ≡ merged_faults t.faults (total_of t) (all_notes (placed t)) 0 → AreMergedFaults t errors

-- The list has all faults of the table. Only the words of what was expected may differ.
abbrev pub AreAllOf : Table → List ParseErrorKind → Type 0
AreAllOf t errors = map unworded errors ≡ map unworded (faults_of_table t)

-- The faults lie in the source, there is at least one, and the list has all of them. Then the table
-- is no file without a fault. Or memory ran out.
abbrev pub RefusesTable : Table → ℕ → SyntaxFailure → Type 0
RefusesTable t size OutOfMemory = Unit {0}
RefusesTable t size (Faults v) = (v.items ≡ [] → ⊥) × Each (LiesIn size) v.items × ((f : tree.File Place) → IsWhole t f → ⊥) × AreMergedFaults t v.items × AreAllOf t v.items

-- The answer is the file's syntax tree if nothing is wrong, or else its faults.
abbrev pub ParsesTable : Table → ℕ → Result File SyntaxFailure → Type 0
ParsesTable t size (Ok file) = (f : tree.File Place) × IsWhole t f × (file ≡ ast.file size f)
ParsesTable t size (Err e) = RefusesTable t size e
