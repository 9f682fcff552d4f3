use Rattle.std.proofs.Common.{List, sym, ◌∙◌, ap, subst, arith}
use Rattle.protox_lexeme.specs.Lexemes.{Lexeme}
use Rattle.protox_lexeme.specs.Table.{rows_of}
use Rattle.protox_text_format.specs.inner.Cutting.{Passes}
use Rattle.protox_text_format.proofs.Passing.{fault_behind, passes_one, rows_none, takes_less}
use Rattle.protox_text_format.proofs.cutting.next_piece.Goals as goal

pub returns-in-Some-clause-passes : goal.returns-in-Some-clause-passes
returns-in-Some-clause-passes c =
    passes_one c.args.lexer.now.left c.lexemes.lexer.left c.next_token.new.lexer.left c.in-Ok-Some.token c.in-Ok-Some.span c.lexemes.invariant.passes
    (rw c.in-Ok-Some.field-0-is at c.in-Ok-Some.ensures.some)

pub lexemes-preserved : goal.lexemes-preserved
lexemes-preserved c =
    let takes = rw c.in-Ok-Some.field-0-is at c.in-Ok-Some.ensures.some in
    let less = takes_less c.lexemes.lexer.left c.next_token.new.lexer.left c.in-Ok-Some.token c.in-Ok-Some.span takes in
    record {
      ready = c.in-Ok-Some.ensures.ready;
      passes = passes_one c.args.lexer.now.left c.lexemes.lexer.left c.next_token.new.lexer.left
          c.in-Ok-Some.token c.in-Ok-Some.span c.lexemes.invariant.passes takes;
      rows = rows_none c.args.lexer.now.left c.lexemes.lexer.left c.next_token.new.lexer.left
          c.in-Ok-Some.token c.in-Ok-Some.span c.lexemes.invariant.rows takes c.in_default.ensures;
      fewer = let before = c.lexemes.invariant.fewer in omega (arith, less, before);
    }

pub returns-in-Ok-None-clause-passes : goal.returns-in-Ok-None-clause-passes
returns-in-Ok-None-clause-passes c =
    subst (λ (x : List Lexeme). Passes c.args.lexer.now.left x) (sym (rw c.in-Ok-None.field-0-is at c.in-Ok-None.ensures.left))
    c.lexemes.invariant.passes

pub returns-in-Ok-None-clause-rows : goal.returns-in-Ok-None-clause-rows
returns-in-Ok-None-clause-rows c =
    c.lexemes.invariant.rows ∙ ap rows_of (sym (rw c.in-Ok-None.field-0-is at c.in-Ok-None.ensures.left))

pub returns-in-Ok-None-clause-none : goal.returns-in-Ok-None-clause-none
returns-in-Ok-None-clause-none c =
    (rw c.in-Ok-None.field-0-is at c.in-Ok-None.ensures.left) ∙ (rw c.in-Ok-None.field-0-is at c.in-Ok-None.ensures.none)

pub returns-in-Err-clause-first : goal.returns-in-Err-clause-first
returns-in-Err-clause-first c =
    fault_behind c.args.lexer.now.left c.lexemes.lexer.left c.in-Err.failure c.lexemes.invariant.passes c.in-Err.ensures.first
