use Rattle.std.proofs.Common.{sym, ◌∙◌}
use Rattle.std.proofs.lemmas.Result.{err_from_is_err_and}
use Rattle.protox_grammar.specs.Class.{only, in_set}
use Rattle.protox_grammar.specs.Token as token
use Rattle.protox_rows.specs.inner.Reads.{push}
use Rattle.protox_rows.proofs.Lemmas as turns
use Rattle.protox_declarations.specs.inner.Ranges as rule
use Rattle.protox_declarations.proofs.BlockTurns.{more_name-eats}
use Rattle.protox_declarations.proofs.ranges.names.Goals as goal
use Rattle.protox_declarations.specs.inner.BlockWords as words

pub returns-in_err-name-clause-read : goal.returns-in_err-name-clause-read
returns-in_err-name-clause-read c =
    let p = err_from_is_err_and c.from_residual-in_err-name.result c.from_residual-in_err-name.ensures.1 in
    rw (p.1, p.2) (turns.ends push (in_set (only token.comma)) (rule.more_name).code more_name-eats ((rule.names).code c.args.rows.now) c.in_err-name.field-0.0 _ _ (sym c.sees.ensures ∙ c.more-test.true) c.in_err-name.ensures.read c.more.invariant.read)

pub returns-in_err-name-clause-notes : goal.returns-in_err-name-clause-notes
returns-in_err-name-clause-notes c =
    let p = err_from_is_err_and c.from_residual-in_err-name.result c.from_residual-in_err-name.ensures.1 in
    rw (p.1, p.2) (turns.last-notes (only token.comma) (rule.more_name).code (rule.more_name).notes more_name-eats c.in_err-name.field-0.0 c.args.notes.now.items c.more.notes.items c.more_name.new.notes.items ((rule.names).notes c.args.rows.now) c.more.rows (sym c.sees.ensures ∙ c.more-test.true) c.in_err-name.ensures.read c.in_err-name.ensures.notes c.more.invariant.notes)

pub returns-in_err-name-clause-words : goal.returns-in_err-name-clause-words
returns-in_err-name-clause-words c =
    let p = err_from_is_err_and c.from_residual-in_err-name.result c.from_residual-in_err-name.ensures.1 in
    rw (p.1, p.2) (turns.last-words (in_set (only token.comma)) (rule.more_name).code words.more_name more_name-eats c.in_err-name.field-0.0 (words.names_of c.args.rows.now) c.more.rows (sym c.sees.ensures ∙ c.more-test.true) c.in_err-name.ensures.read c.in_err-name.ensures.words c.more.invariant.words)

pub more-smaller : goal.more-smaller
more-smaller c = turns.shorter (rule.more_name).code more_name-eats c.more.rows c.more_name.new.rows _ c.in_ok-name.ensures.read

pub more-preserved : goal.more-preserved
more-preserved c = record {
  read = rw c.in_ok-push-2.ensures.ok (turns.more push (in_set (only token.comma)) (rule.more_name).code more_name-eats ((rule.names).code c.args.rows.now) _ _ _ _ (sym c.sees.ensures ∙ c.more-test.true) c.in_ok-name.ensures.read c.more.invariant.read);
  notes = turns.more-notes (only token.comma) (rule.more_name).code (rule.more_name).notes more_name-eats c.args.notes.now.items c.more.notes.items c.more_name.new.notes.items ((rule.names).notes c.args.rows.now) c.more.rows c.more_name.new.rows _ (sym c.sees.ensures ∙ c.more-test.true) c.in_ok-name.ensures.read c.in_ok-name.ensures.notes c.more.invariant.notes;
  words = turns.more-words (in_set (only token.comma)) (rule.more_name).code words.more_name more_name-eats (words.names_of c.args.rows.now) _ _ _ (sym c.sees.ensures ∙ c.more-test.true) c.in_ok-name.ensures.read c.more.invariant.words;
}

pub returns-clause-read : goal.returns-clause-read
returns-clause-read c = turns.done push (in_set (only token.comma)) (rule.more_name).code more_name-eats ((rule.names).code c.args.rows.now) _ _ (sym c.sees.ensures ∙ c.more-test.false) c.more.invariant.read

pub returns-clause-notes : goal.returns-clause-notes
returns-clause-notes c = turns.no-notes (only token.comma) (rule.more_name).code (rule.more_name).notes more_name-eats c.args.notes.now.items c.more.notes.items ((rule.names).notes c.args.rows.now) c.more.rows (sym c.sees.ensures ∙ c.more-test.false) c.more.invariant.notes
