use Rattle.std.proofs.Common.{sym, ◌∙◌}
use Rattle.std.proofs.lemmas.Result.{err_from_is_err_and}
use Rattle.protox_grammar.specs.Class.{only, in_set}
use Rattle.protox_grammar.specs.Token as token
use Rattle.protox_rows.specs.inner.Reads.{push}
use Rattle.protox_rows.proofs.Lemmas as turns
use Rattle.protox_declarations.specs.inner.Ranges as rule
use Rattle.protox_declarations.proofs.BlockTurns.{more_range-eats}
use Rattle.protox_declarations.proofs.ranges.ranges.Goals as goal
use Rattle.protox_declarations.specs.inner.BlockWords as words

pub returns-in_err-range-clause-read : goal.returns-in_err-range-clause-read
returns-in_err-range-clause-read c =
    let p = err_from_is_err_and c.from_residual-in_err-range.result c.from_residual-in_err-range.ensures.1 in
    rw (p.1, p.2) (turns.ends push (in_set (only token.comma)) (rule.more_range).code more_range-eats ((rule.ranges).code c.args.rows.now) c.in_err-range.field-0.0 _ _ (sym c.sees.ensures ∙ c.more-test.true) c.in_err-range.ensures.read c.more.invariant.read)

pub returns-in_err-range-clause-words : goal.returns-in_err-range-clause-words
returns-in_err-range-clause-words c =
    let p = err_from_is_err_and c.from_residual-in_err-range.result c.from_residual-in_err-range.ensures.1 in
    rw (p.1, p.2) (turns.last-words (in_set (only token.comma)) (rule.more_range).code words.more_range more_range-eats c.in_err-range.field-0.0 (words.ranges c.args.rows.now) c.more.rows (sym c.sees.ensures ∙ c.more-test.true) c.in_err-range.ensures.read c.in_err-range.ensures.words c.more.invariant.words)

pub more-smaller : goal.more-smaller
more-smaller c = turns.shorter (rule.more_range).code more_range-eats c.more.rows c.more_range.new.rows _ c.in_ok-range.ensures.read

pub more-preserved : goal.more-preserved
more-preserved c = record {
  read = rw c.in_ok-push-2.ensures.ok (turns.more push (in_set (only token.comma)) (rule.more_range).code more_range-eats ((rule.ranges).code c.args.rows.now) _ _ _ _ (sym c.sees.ensures ∙ c.more-test.true) c.in_ok-range.ensures.read c.more.invariant.read);
  words = turns.more-words (in_set (only token.comma)) (rule.more_range).code words.more_range more_range-eats (words.ranges c.args.rows.now) _ _ _ (sym c.sees.ensures ∙ c.more-test.true) c.in_ok-range.ensures.read c.more.invariant.words;
}

pub returns-clause-read : goal.returns-clause-read
returns-clause-read c = turns.done push (in_set (only token.comma)) (rule.more_range).code more_range-eats ((rule.ranges).code c.args.rows.now) _ _ (sym c.sees.ensures ∙ c.more-test.false) c.more.invariant.read
