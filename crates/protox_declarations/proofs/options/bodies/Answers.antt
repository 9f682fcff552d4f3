use Rattle.std.proofs.Common.{sym, ◌∙◌}
use Rattle.std.proofs.lemmas.Result.{err_from_is_err_and}
use Rattle.protox_grammar.specs.Class.{only, in_set}
use Rattle.protox_grammar.specs.Token as token
use Rattle.protox_rows.specs.inner.Reads.{push}
use Rattle.protox_rows.proofs.Lemmas as turns
use Rattle.protox_declarations.specs.inner.Options.{more_body, bodies}
use Rattle.protox_declarations.proofs.OptionTurns.{more_body-eats}
use Rattle.protox_declarations.proofs.options.bodies.Goals as goal
use Rattle.protox_declarations.specs.inner.OptionWords as words

pub returns-in_err-body-clause-read : goal.returns-in_err-body-clause-read
returns-in_err-body-clause-read c =
    let p = err_from_is_err_and c.from_residual-in_err-body.result c.from_residual-in_err-body.ensures.1 in
    rw (p.1, p.2) (turns.ends push (in_set (only token.comma)) (more_body).code more_body-eats ((bodies).code c.args.rows.now) c.in_err-body.field-0.0 _ _ (sym c.sees.ensures ∙ c.more-test.true) c.in_err-body.ensures.read c.more.invariant.read)

pub returns-in_err-body-clause-notes : goal.returns-in_err-body-clause-notes
returns-in_err-body-clause-notes c =
    let p = err_from_is_err_and c.from_residual-in_err-body.result c.from_residual-in_err-body.ensures.1 in
    rw (p.1, p.2) (turns.last-notes (only token.comma) (more_body).code (more_body).notes more_body-eats c.in_err-body.field-0.0 c.args.notes.now.items c.more.notes.items c.more_body.new.notes.items ((bodies).notes c.args.rows.now) c.more.rows (sym c.sees.ensures ∙ c.more-test.true) c.in_err-body.ensures.read c.in_err-body.ensures.notes c.more.invariant.notes)

pub returns-in_err-body-clause-words : goal.returns-in_err-body-clause-words
returns-in_err-body-clause-words c =
    let p = err_from_is_err_and c.from_residual-in_err-body.result c.from_residual-in_err-body.ensures.1 in
    rw (p.1, p.2) (turns.last-words (in_set (only token.comma)) (more_body).code words.more_body more_body-eats c.in_err-body.field-0.0 (words.bodies c.args.rows.now) c.more.rows (sym c.sees.ensures ∙ c.more-test.true) c.in_err-body.ensures.read c.in_err-body.ensures.words c.more.invariant.words)

pub more-smaller : goal.more-smaller
more-smaller c = turns.shorter (more_body).code more_body-eats c.more.rows c.more_body.new.rows _ c.in_ok-body.ensures.read

pub more-preserved : goal.more-preserved
more-preserved c = record {
  read = rw c.in_ok-push-2.ensures.ok (turns.more push (in_set (only token.comma)) (more_body).code more_body-eats ((bodies).code c.args.rows.now) _ _ _ _ (sym c.sees.ensures ∙ c.more-test.true) c.in_ok-body.ensures.read c.more.invariant.read);
  notes = turns.more-notes (only token.comma) (more_body).code (more_body).notes more_body-eats c.args.notes.now.items c.more.notes.items c.more_body.new.notes.items ((bodies).notes c.args.rows.now) c.more.rows c.more_body.new.rows _ (sym c.sees.ensures ∙ c.more-test.true) c.in_ok-body.ensures.read c.in_ok-body.ensures.notes c.more.invariant.notes;
  words = turns.more-words (in_set (only token.comma)) (more_body).code words.more_body more_body-eats (words.bodies c.args.rows.now) _ _ _ (sym c.sees.ensures ∙ c.more-test.true) c.in_ok-body.ensures.read c.more.invariant.words;
}

pub returns-clause-read : goal.returns-clause-read
returns-clause-read c = turns.done push (in_set (only token.comma)) (more_body).code more_body-eats ((bodies).code c.args.rows.now) _ _ (sym c.sees.ensures ∙ c.more-test.false) c.more.invariant.read

pub returns-clause-notes : goal.returns-clause-notes
returns-clause-notes c = turns.no-notes (only token.comma) (more_body).code (more_body).notes more_body-eats c.args.notes.now.items c.more.notes.items ((bodies).notes c.args.rows.now) c.more.rows (sym c.sees.ensures ∙ c.more-test.false) c.more.invariant.notes
