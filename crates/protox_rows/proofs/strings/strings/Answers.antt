use Rattle.std.proofs.Common.{sym, ◌∙◌}
use Rattle.std.proofs.lemmas.Result.{err_from_is_err_and}
use Rattle.protox_grammar.specs.Class.{only, in_set}
use Rattle.protox_grammar.specs.Token as token
use Rattle.protox_rows.specs.inner.Strings.{more_string, string, strings}
use Rattle.protox_rows.specs.inner.Words as words
use Rattle.protox_rows.specs.declared.expected.Expected.TheVariants as expected
use Rattle.protox_rows.proofs.Same.{string-eats}
use Rattle.protox_rows.proofs.Turns as turns
use Rattle.protox_rows.proofs.strings.strings.Goals as goal

pub returns-in_err-more-clause-read : goal.returns-in_err-more-clause-read
returns-in_err-more-clause-read c =
    let p = err_from_is_err_and c.from_residual-in_err-more.result c.from_residual-in_err-more.ensures.1 in
    rw (p.1, p.2) (turns.ends more_string (in_set (only token.a_string)) (string).code string-eats ((strings).code c.args.rows.now) c.in_err-more.field-0.0 _ _ (sym c.sees.ensures ∙ c.more-test.true) c.in_err-more.ensures.read c.more.invariant.read)

pub returns-in_err-more-clause-words : goal.returns-in_err-more-clause-words
returns-in_err-more-clause-words c =
    let p = err_from_is_err_and c.from_residual-in_err-more.result c.from_residual-in_err-more.ensures.1 in
    rw (p.1, p.2) (turns.last-words (in_set (only token.a_string)) (string).code (words.always expected.StringLiteral) string-eats c.in_err-more.field-0.0 (words.strings c.args.expected c.args.rows.now) c.more.rows (sym c.sees.ensures ∙ c.more-test.true) c.in_err-more.ensures.read c.in_err-more.ensures.words c.more.invariant.words)

pub more-smaller : goal.more-smaller
more-smaller c = turns.shorter (string).code string-eats c.more.rows c.string-in-more.new.rows _ c.in_ok-more.ensures.read

pub more-preserved : goal.more-preserved
more-preserved c = record {
  read = rw (c.in_ok-extend_from_slice.ensures.items, c.join-span.ensures) (turns.more more_string (in_set (only token.a_string)) (string).code string-eats ((strings).code c.args.rows.now) _ _ _ _ (sym c.sees.ensures ∙ c.more-test.true) c.in_ok-more.ensures.read c.more.invariant.read);
  words = turns.more-words (in_set (only token.a_string)) (string).code (words.always expected.StringLiteral) string-eats (words.strings c.args.expected c.args.rows.now) _ _ _ (sym c.sees.ensures ∙ c.more-test.true) c.in_ok-more.ensures.read c.more.invariant.words;
}

pub returns-clause-read : goal.returns-clause-read
returns-clause-read c = turns.done more_string (in_set (only token.a_string)) (string).code string-eats ((strings).code c.args.rows.now) _ _ (sym c.sees.ensures ∙ c.more-test.false) c.more.invariant.read
