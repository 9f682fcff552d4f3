use Rattle.std.proofs.Common.{sym, ◌∙◌, arith}
use Rattle.std.proofs.lemmas.List.{length-append}
use Rattle.std.proofs.lemmas.Result.{err_from_is_err_and}
use Rattle.protox_grammar.specs.Class.{only, in_set}
use Rattle.protox_grammar.specs.Token as token
use Rattle.protox_rows.specs.inner.Names.{more_part, fullident}
use Rattle.protox_rows.specs.inner.Reads.{push}
use Rattle.protox_rows.specs.inner.Words as words
use Rattle.protox_rows.proofs.Same.{more_part-eats}
use Rattle.protox_rows.proofs.Turns as turns
use Rattle.protox_rows.proofs.names.fullident.Goals as goal

pub returns-in_err-part-clause-read : goal.returns-in_err-part-clause-read
returns-in_err-part-clause-read c =
    let p = err_from_is_err_and c.from_residual-in_err-part.result c.from_residual-in_err-part.ensures.1 in
    rw (p.1, p.2) (turns.ends push (in_set (only token.dot)) (more_part).code more_part-eats ((fullident).code c.args.rows.now) c.in_err-part.field-0.0 _ _ (sym c.sees-in-more.ensures ∙ c.more-test.true) c.in_err-part.ensures.read c.more.invariant.read)

pub returns-in_err-part-clause-words : goal.returns-in_err-part-clause-words
returns-in_err-part-clause-words c =
    let p = err_from_is_err_and c.from_residual-in_err-part.result c.from_residual-in_err-part.ensures.1 in
    rw (p.1, p.2) (turns.last-words (in_set (only token.dot)) (more_part).code words.more_part more_part-eats c.in_err-part.field-0.0 (words.fullident c.args.expected c.args.rows.now) c.more.rows (sym c.sees-in-more.ensures ∙ c.more-test.true) c.in_err-part.ensures.read c.in_err-part.ensures.words c.more.invariant.words)

pub more-smaller : goal.more-smaller
more-smaller c = turns.shorter (more_part).code more_part-eats c.more.rows c.more_part.new.rows _ c.in_ok-part.ensures.read

pub more-preserved : goal.more-preserved
more-preserved c = record {
  read = rw c.in_ok-push-2.ensures.ok (turns.more push (in_set (only token.dot)) (more_part).code more_part-eats ((fullident).code c.args.rows.now) _ _ _ _ (sym c.sees-in-more.ensures ∙ c.more-test.true) c.in_ok-part.ensures.read c.more.invariant.read);
  some = rw c.in_ok-push-2.ensures.ok (rw length-append (omega arith));
  words = turns.more-words (in_set (only token.dot)) (more_part).code words.more_part more_part-eats (words.fullident c.args.expected c.args.rows.now) _ _ _ (sym c.sees-in-more.ensures ∙ c.more-test.true) c.in_ok-part.ensures.read c.more.invariant.words;
}

pub returns-clause-read : goal.returns-clause-read
returns-clause-read c = turns.done push (in_set (only token.dot)) (more_part).code more_part-eats ((fullident).code c.args.rows.now) _ _ (sym c.sees-in-more.ensures ∙ c.more-test.false) c.more.invariant.read
