use Rattle.std.proofs.Common.{sym, ◌∙◌}
use Rattle.std.proofs.lemmas.Result.{err_from_is_err_and}
use Rattle.protox_grammar.specs.Class.{but, in_set}
use Rattle.protox_rows.proofs.Lemmas as turns
use Rattle.protox_declarations.specs.inner.Services as rule
use Rattle.protox_declarations.proofs.BlockTurns.{rpc_element-eats}
use Rattle.protox_declarations.proofs.services.rpc_elements.Goals as goal
use Rattle.protox_declarations.specs.inner.BlockWords as words

pub returns-in_err-element-clause-read : goal.returns-in_err-element-clause-read
returns-in_err-element-clause-read c =
    let p = err_from_is_err_and c.from_residual.result c.from_residual.ensures.1 in
    rw (p.1, p.2) (turns.ends rule.add_option (in_set (but 48)) (rule.rpc_element).code rpc_element-eats ((rule.rpc_elements).code c.args.rows.now) c.in_err-element.field-0.0 _ _ (sym c.sees_other.ensures ∙ c.more-test.true) c.in_err-element.ensures.read c.more.invariant.read)

pub returns-in_err-element-clause-notes : goal.returns-in_err-element-clause-notes
returns-in_err-element-clause-notes c =
    let p = err_from_is_err_and c.from_residual.result c.from_residual.ensures.1 in
    rw (p.1, p.2) (turns.last-notes (but 48) (rule.rpc_element).code (rule.rpc_element).notes rpc_element-eats c.in_err-element.field-0.0 c.args.notes.now.items c.more.notes.items c.rpc_element.new.notes.items ((rule.rpc_elements).notes c.args.rows.now) c.more.rows (sym c.sees_other.ensures ∙ c.more-test.true) c.in_err-element.ensures.read c.in_err-element.ensures.notes c.more.invariant.notes)

pub returns-in_err-element-clause-words : goal.returns-in_err-element-clause-words
returns-in_err-element-clause-words c =
    let p = err_from_is_err_and c.from_residual.result c.from_residual.ensures.1 in
    rw (p.1, p.2) (turns.last-words (in_set (but 48)) (rule.rpc_element).code words.rpc_element rpc_element-eats c.in_err-element.field-0.0 (words.rpc_elements c.args.rows.now) c.more.rows (sym c.sees_other.ensures ∙ c.more-test.true) c.in_err-element.ensures.read c.in_err-element.ensures.words c.more.invariant.words)

pub more-smaller : goal.more-smaller
more-smaller c = turns.shorter (rule.rpc_element).code rpc_element-eats c.more.rows c.rpc_element.new.rows _ c.in_ok-element.ensures.read

pub more-preserved : goal.more-preserved
more-preserved c = record {
  read = rw c.in_ok-put_option.ensures (turns.more rule.add_option (in_set (but 48)) (rule.rpc_element).code rpc_element-eats ((rule.rpc_elements).code c.args.rows.now) _ _ _ _ (sym c.sees_other.ensures ∙ c.more-test.true) c.in_ok-element.ensures.read c.more.invariant.read);
  notes = turns.more-notes (but 48) (rule.rpc_element).code (rule.rpc_element).notes rpc_element-eats c.args.notes.now.items c.more.notes.items c.rpc_element.new.notes.items ((rule.rpc_elements).notes c.args.rows.now) c.more.rows c.rpc_element.new.rows _ (sym c.sees_other.ensures ∙ c.more-test.true) c.in_ok-element.ensures.read c.in_ok-element.ensures.notes c.more.invariant.notes;
  words = turns.more-words (in_set (but 48)) (rule.rpc_element).code words.rpc_element rpc_element-eats (words.rpc_elements c.args.rows.now) _ _ _ (sym c.sees_other.ensures ∙ c.more-test.true) c.in_ok-element.ensures.read c.more.invariant.words;
}

pub returns-clause-read : goal.returns-clause-read
returns-clause-read c = turns.done rule.add_option (in_set (but 48)) (rule.rpc_element).code rpc_element-eats ((rule.rpc_elements).code c.args.rows.now) _ _ (sym c.sees_other.ensures ∙ c.more-test.false) c.more.invariant.read

pub returns-clause-notes : goal.returns-clause-notes
returns-clause-notes c = turns.no-notes (but 48) (rule.rpc_element).code (rule.rpc_element).notes rpc_element-eats c.args.notes.now.items c.more.notes.items ((rule.rpc_elements).notes c.args.rows.now) c.more.rows (sym c.sees_other.ensures ∙ c.more-test.false) c.more.invariant.notes
