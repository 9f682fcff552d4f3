-- The notes that are made while reading give the list of all faults, step by step.
use Rattle.std.specs.Prelude.{◌≡◌, suc, ◌+◌, List, length, map, Option}
use Rattle.protox_fault.specs.Faults.{Span}
use Rattle.protox_fault.specs.declared.error.ParseErrorKind.{ParseErrorKind}
use Rattle.protox_lexeme.specs.Shapes.{Rows}
use Rattle.protox_lexeme.specs.Table.{Table}
use Rattle.protox_ast.specs.Places.{Place}
use Rattle.protox_ast.specs.Tree as tree
use Rattle.protox_grammar.specs.Told.{Notes, place_of}
use Rattle.protox_syntax.specs.AllFaults.{Progress, beginning, faults_of_table, read, statements, unworded}
use Rattle.protox_syntax.specs.inner.Recovery.{AreLast}
use Rattle.protox_syntax.specs.inner.Merge.{merge_notes}

-- the list so far, with these notes merged among the rows
abbrev pub found_with_notes : Table → Notes → Progress → Progress
found_with_notes t notes p = merge_notes t.faults (length t.rows + 1) notes p

-- The two agree. Only the words of what was expected may differ.
abbrev pub Alike : Progress → Progress → Type 0
Alike p q = (map unworded p.errors ≡ map unworded q.errors) × (p.next ≡ q.next) × (p.text_format ≡ q.text_format)

-- all faults of the file, where these rows are left to be read
abbrev pub rest_of : Table → Option (tree.Package Place) → Rows Place → Progress → List ParseErrorKind
rest_of t first rows p = statements t (suc (length rows)) first rows p

-- These notes lead to these rows: merging the notes among the rows gives the list so far, up to the
-- words of what was expected. The faults of the remaining rows complete the list.
pub record Leads (t : Table) (notes : Notes) (first : Option Span) (rows : Rows Place) : Type 0 where
  pub statement_first : Option (tree.Package Place)
  pub found : Progress
  pub first_is : place_of statement_first ≡ first
  pub last : AreLast t rows
  pub alike : Alike (found_with_notes t notes beginning) found
  pub rest : rest_of t statement_first rows found ≡ faults_of_table t

-- With these notes all rows are read, and the list is complete.
abbrev pub Ends : Table → Notes → Type 0
Ends t notes = (found : Progress) × Alike (found_with_notes t notes beginning) found × ((read t 0 found).errors ≡ faults_of_table t)
