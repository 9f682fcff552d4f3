use Rattle.std.proofs.Common.{◌≡◌, ◌≤◌, length}
use Rattle.protox_lexeme.specs.Table.{rows_of}
use Rattle.protox_text_format.specs.inner.Cutting.{IsReady, Passes}
use Rattle.protox_text_format.proofs.cutting.next_piece.Given as goal

abbrev pub invariant-lexemes : goal.invariant-lexemes
invariant-lexemes l = record {
  ready : IsReady l.lexer;
  passes : Passes l.fn.lexer.left l.lexer.left;
  rows : rows_of l.fn.lexer.left ≡ rows_of l.lexer.left;
  fewer : length l.lexer.left ≤ length l.fn.lexer.left;
}

abbrev pub decreases-lexemes : goal.decreases-lexemes
decreases-lexemes l = length l.lexer.left
