use Rattle.protox_lexeme.specs.Lexemes.{cut}
use Rattle.protox_lexeme.specs.Table.{rows_of}
use Rattle.protox_text_format.proofs.Passing.{fault_behind, passes_all, passes_on, rows_push}
use Rattle.protox_text_format.proofs.cutting.pieces.Goals as goal

pub pieces-preserved : goal.pieces-preserved
pieces-preserved c =
    let text = cut 0 c.args.text.now in
    record {
      ready = c.in-Ok-Some.ensures.ready;
      passes = passes_on text c.pieces.lexer.left c.next_piece.new.lexer.left c.pieces.invariant.passes c.in-Ok-Some.ensures.passes;
      rows = rows_push c.pieces.found.items c.add.new.found.items c.in-Ok-Some.piece (rows_of text) (rows_of c.pieces.lexer.left)
          (rows_of c.next_piece.new.lexer.left) c.in_default.ensures.added c.pieces.invariant.rows
          (rw c.in-Ok-Some.field-0-is at c.in-Ok-Some.ensures.rows);
    }

pub returns-in-Ok-None-clause-faultless : goal.returns-in-Ok-None-clause-faultless
returns-in-Ok-None-clause-faultless c =
    passes_all (cut 0 c.args.text.now) c.next_piece.new.lexer.left
    (passes_on (cut 0 c.args.text.now) c.pieces.lexer.left c.next_piece.new.lexer.left c.pieces.invariant.passes c.in-Ok-None.ensures.passes)
    (rw c.in-Ok-None.field-0-is at c.in-Ok-None.ensures.none)

pub returns-in-Err-clause-first : goal.returns-in-Err-clause-first
returns-in-Err-clause-first c =
    fault_behind (cut 0 c.args.text.now) c.pieces.lexer.left c.in-Err.failure c.pieces.invariant.passes c.in-Err.ensures.first
