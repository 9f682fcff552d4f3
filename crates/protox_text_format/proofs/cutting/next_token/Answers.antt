use Rattle.protox_text_format.proofs.Passing.{not_a_token, token_with_fault}
use Rattle.protox_text_format.proofs.cutting.next_token.Goals as goal

pub returns-in_default-lexeme-clause-first : goal.returns-in_default-lexeme-clause-first
returns-in_default-lexeme-clause-first c =
    not_a_token c.args.lexer.now c.next.new.self c.in-Ok.next c.in-Some.lexeme c.span-span.result
    c.in-Ok.ensures.ok c.in-Some.is c.span-span.ensures c.in_default-lexeme.field-0 c.in_default-lexeme.is

pub returns-then-not-is_empty-clause-first : goal.returns-then-not-is_empty-clause-first
returns-then-not-is_empty-clause-first c =
    token_with_fault c.args.lexer.now c.next.new.self c.in-Ok.next c.in-Some.lexeme c.span-span.result
    c.in-Ok.ensures.ok c.in-Some.is c.span-span.ensures c.requires c.errors.result.now c.errors.ensures c.if-not-is_empty.ensures
