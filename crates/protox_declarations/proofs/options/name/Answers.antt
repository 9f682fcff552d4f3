use Rattle.std.proofs.Common.{sym, ◌∙◌}
use Rattle.std.proofs.lemmas.Result.{err_from_is_err_and}
use Rattle.protox_grammar.specs.Class.{only, in_set}
use Rattle.protox_grammar.specs.Token as token
use Rattle.protox_rows.specs.inner.Reads.{push}
use Rattle.protox_rows.proofs.Lemmas as turns
use Rattle.protox_declarations.specs.inner.Options.{more_part, name}
use Rattle.protox_declarations.proofs.OptionTurns.{more_part-eats}
use Rattle.protox_declarations.proofs.options.name.Goals as goal
use Rattle.protox_declarations.specs.inner.OptionWords as words

pub returns-in_err-part-clause-read : goal.returns-in_err-part-clause-read
returns-in_err-part-clause-read c =
    let p = err_from_is_err_and c.from_residual-in_err-part.result c.from_residual-in_err-part.ensures.1 in
    rw (p.1, p.2) (turns.ends push (in_set (only token.dot)) (more_part).code more_part-eats ((name).code c.args.rows.now) c.in_err-part.field-0.0 _ _ (sym c.sees.ensures ∙ c.more-test.true) c.in_err-part.ensures.read c.more.invariant.read)

pub returns-in_err-part-clause-words : goal.returns-in_err-part-clause-words
returns-in_err-part-clause-words c =
    let p = err_from_is_err_and c.from_residual-in_err-part.result c.from_residual-in_err-part.ensures.1 in
    rw (p.1, p.2) (turns.last-words (in_set (only token.dot)) (more_part).code words.more_part more_part-eats c.in_err-part.field-0.0 (words.name c.args.rows.now) c.more.rows (sym c.sees.ensures ∙ c.more-test.true) c.in_err-part.ensures.read c.in_err-part.ensures.words c.more.invariant.words)

pub more-smaller : goal.more-smaller
more-smaller c = turns.shorter (more_part).code more_part-eats c.more.rows c.more_part.new.rows _ c.in_ok-part.ensures.read

pub more-preserved : goal.more-preserved
more-preserved c = record {
  read = rw c.in_ok-push-2.ensures.ok (turns.more push (in_set (only token.dot)) (more_part).code more_part-eats ((name).code c.args.rows.now) _ _ _ _ (sym c.sees.ensures ∙ c.more-test.true) c.in_ok-part.ensures.read c.more.invariant.read);
  words = turns.more-words (in_set (only token.dot)) (more_part).code words.more_part more_part-eats (words.name c.args.rows.now) _ _ _ (sym c.sees.ensures ∙ c.more-test.true) c.in_ok-part.ensures.read c.more.invariant.words;
}

pub returns-clause-read : goal.returns-clause-read
returns-clause-read c = turns.done push (in_set (only token.dot)) (more_part).code more_part-eats ((name).code c.args.rows.now) _ _ (sym c.sees.ensures ∙ c.more-test.false) c.more.invariant.read
