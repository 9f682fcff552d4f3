use Rattle.std.proofs.Common.{◌≡◌, ◌++◌, length, map}
use Rattle.protox_lexeme.specs.Lexemes.{cut}
use Rattle.protox_lexeme.specs.Table.{rows_of}
use Rattle.protox_text_format.specs.Pieces.{row_of}
use Rattle.protox_text_format.specs.inner.Cutting.{IsReady, Passes}
use Rattle.protox_text_format.proofs.cutting.pieces.Given as goal

abbrev pub invariant-pieces : goal.invariant-pieces
invariant-pieces l = record {
  ready : IsReady l.lexer;
  passes : Passes (cut 0 l.text) l.lexer.left;
  rows : rows_of (cut 0 l.text) ≡ map row_of l.found.items ++ rows_of l.lexer.left;
}

abbrev pub decreases-pieces : goal.decreases-pieces
decreases-pieces l = length l.lexer.left
