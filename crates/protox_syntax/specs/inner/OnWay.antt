-- How far the last part of a source has been read.
use Rattle.std.specs.Prelude.{◌≡◌, ◌≤◌, ℕ, Bool, true, false, List, ◌++◌, length, Option, option_map, Ok}
use Rattle.protox_fault.specs.Faults.{Span}
use Rattle.protox_lexeme.specs.Lexemes.{cut}
use Rattle.protox_lexeme.specs.Shapes.{Rows}
use Rattle.protox_lexeme.specs.Table.{Table, table_of}
use Rattle.protox_ast.specs.Places.{Place, placed}
use Rattle.protox_ast.specs.declared.ast.Comments.{Comments}
use Rattle.protox_ast.specs.declared.ast.File.{File}
use Rattle.protox_ast.specs.declared.ast.FileItem.{FileItem}
use Rattle.protox_ast.specs.declared.ast.Syntax.{Syntax}
use Rattle.protox_grammar.specs.Class.{all, in_set}
use Rattle.protox_grammar.specs.Reader.{◌>>=◌, gathered, star}
use Rattle.protox_grammar.specs.Told.{Notes}
use Rattle.protox_rows.specs.inner.Outcome.{Fails}
use Rattle.protox_rows.specs.inner.Words.{SaysOf}
use Rattle.protox_rows.specs.declared.refused.Refused.{Refused}
use Rattle.protox_syntax.specs.inner.Leading.{Leads}
use Rattle.protox_syntax.specs.inner.Merge.{merged_faults}
use Rattle.protox_syntax.specs.inner.ParsedTable.{syntax_or_default, syntax_place, total_of}
use Rattle.protox_syntax.specs.inner.Parts.{IsHeld, place_in}
use Rattle.protox_syntax.specs.inner.Recovery.{AreLast, FirstLies, LiesToo, Recovers}
use Rattle.protox_syntax.specs.inner.Statements.{Statements, add_statement, first_place, notes_behind, statement}
use Rattle.protox_syntax.specs.inner.Whole.{all_notes, whole}
use Rattle.protox_syntax.specs.inner.Words as said

-- the table of a whole source
abbrev pub table_in : List ℕ → Table
table_in source = table_of (cut 0 source)

-- No statement has been refused so far. The file goes on as these rows do, and the head holds what
-- is before them.
pub record IsUnrefused (source : List ℕ) (rows : Rows Place) (noted : Notes) (gone : List FileItem) (head : File) : Type 0 where
  pub syntax : Option (Syntax × (Span × Comments))
  pub statements : Statements
  pub whole_is : whole (placed (table_in source)) ≡ gathered add_statement statements (star (in_set all) statement.code rows) >>= λ x. Ok ((syntax, x.0), x.1)
  pub notes_are : noted ++ notes_behind (first_place statements) rows ≡ all_notes (placed (table_in source))
  pub said_is : said.whole (placed (table_in source)) ≡ said.statements rows
  pub syntax_span : head.syntax_span ≡ option_map syntax_place syntax
  pub held : IsHeld (syntax_or_default syntax) statements gone head
  pub lies : FirstLies (placed (table_in source)) (first_place statements)

-- A statement has been refused. `first` is the place of the first package statement before it.
pub record IsBehindRefusal (source : List ℕ) (noted : Notes) (head : File) : Type 0 where
  pub refused : Refused
  pub first : Option Span
  pub fails : Fails refused (whole (placed (table_in source)))
  pub says : SaysOf refused (said.whole (placed (table_in source)))
  pub recovers : Recovers (table_in source) refused first (all_notes (placed (table_in source))) noted
  pub lies : FirstLies (placed (table_in source)) first
  pub now_lies : LiesToo (table_in source) first (place_in head)

-- How far the source has been read; `refused` says whether a statement has been refused.
abbrev pub IsReadTo : Bool → List ℕ → Rows Place → Notes → List FileItem → File → Type 0
IsReadTo false source rows noted gone head = IsUnrefused source rows noted gone head
IsReadTo true source rows noted gone head = IsBehindRefusal source noted head

-- These rows are left of the last part of a source, of which `part` is the table. With the notes
-- before the part these notes lead to them; but those before it don't matter for the faults.
pub record IsOnWay (source : List ℕ) (part : Table) (refused : Bool) (rows : Rows Place) (notes : Notes) (gone : List FileItem) (head : File) : Type 0 where
  pub before : Notes
  pub merged : (more : Notes) (left : ℕ) → merged_faults (table_in source).faults (total_of (table_in source)) (before ++ more) left ≡ merged_faults part.faults (total_of part) more left
  pub fewer : length part.rows ≤ length (table_in source).rows
  pub leads : Leads (table_in source) (before ++ notes) (place_in head) rows
  pub last : AreLast part rows
  pub read_to : IsReadTo refused source rows (before ++ notes) gone head
