-- What contracts see of a table and of its tokens.
use Rattle.std.specs.Borrow.{Bor}
use Rattle.std.specs.Prelude.{Bool, true, List, map, ◌++◌, Result, Ok, Err}
use Rattle.protox_lexeme.specs.declared.token.Token.{Token}
use Rattle.protox_lex.specs.declared.table_draft.TableDraft.{TableDraft}
use Rattle.protox_lex.specs.declared.token_table.TokenTable.TheInside.{Inside}
use Rattle.protox_lexeme.specs.Lexemes.{Lexeme}
use Rattle.protox_lexeme.specs.Shapes.{Shape, Invalid}
use Rattle.protox_lexeme.specs.Table.{Table, in_front, rows_of, borrowed_rows, gaps_of, faults_of}
use Rattle.protox_lexeme.specs.Tokens.{shape_of, borrowed_of}

-- The shape of a borrowed token, or `Invalid`.
abbrev pub shape_of_lent : Result (Bor Token) (Unit {0}) → Shape
shape_of_lent (Ok t) = shape_of t.now
shape_of_lent (Err e) = Invalid

-- Whether a borrowed token owns no memory.
abbrev pub borrowed_of_lent : Result (Bor Token) (Unit {0}) → Bool
borrowed_of_lent (Ok t) = borrowed_of t.now
borrowed_of_lent (Err e) = true

-- The shapes of borrowed tokens.
abbrev pub shapes_of_lent : Bor (List Token) → List Shape
shapes_of_lent tokens = map shape_of tokens.now

-- The table as contracts see it.
abbrev pub table_seen : Inside → Table
table_seen t = record { rows = t.rows.rows; borrowed = t.rows.borrowed; gaps = t.gaps.ended; faults = t.faults.ended }

-- The table that a draft becomes if these lexemes are still to come.
abbrev pub finished : TableDraft → List Lexeme → Table
finished d xs = record {
  rows = d.rows.rows ++ rows_of xs;
  borrowed = d.rows.borrowed ++ borrowed_rows xs;
  gaps = d.gaps.ended ++ in_front d.gaps.begun (gaps_of xs);
  faults = d.faults.ended ++ in_front d.faults.begun (faults_of xs);
}

-- The table of a draft whose last gap has ended.
abbrev pub ended_table : TableDraft → Table
ended_table d = record { rows = d.rows.rows; borrowed = d.rows.borrowed; gaps = d.gaps.ended; faults = d.faults.ended }
