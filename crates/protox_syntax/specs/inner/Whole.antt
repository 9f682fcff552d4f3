-- What reading a whole file gives, and what is noted while reading.
use Rattle.std.specs.Prelude.{◌++◌, Option, None, option_map}
use Rattle.protox_fault.specs.Faults.{Span}
use Rattle.protox_lexeme.specs.Shapes.{Rows}
use Rattle.protox_ast.specs.Places.{Place}
use Rattle.protox_ast.specs.Tree as tree
use Rattle.protox_ast.specs.declared.ast.Comments.{Comments}
use Rattle.protox_ast.specs.declared.ast.Syntax.{Syntax}
use Rattle.protox_grammar.specs.Reader.{Reader, seq}
use Rattle.protox_grammar.specs.Told.{Notes, then_notes}
use Rattle.protox_syntax.specs.inner.Statements.{Statements, syntax_if_any, syntax_seen, statements_at, statements_seen, notes_behind}

-- the syntax statement, and what the statements declare
abbrev pub Whole : Type 0
Whole = Option (Syntax × (Span × Comments)) × Statements

-- syntax? statement*
unfoldable pub whole : Reader Place Whole
whole = seq syntax_if_any.code statements_at

-- a file as the code keeps it
abbrev pub file_seen : tree.File Place → Whole
file_seen f = (option_map syntax_seen f.syntax, statements_seen f.statements)

-- the notes of the syntax statement, and then those of all statements
unfoldable pub all_notes : Rows Place → Notes
all_notes xs = syntax_if_any.notes xs ++ then_notes (notes_behind None) (syntax_if_any.code xs)
