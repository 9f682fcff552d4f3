use Rattle.std.proofs.Common.{sym, subst, ◌∙◌}
use Rattle.std.proofs.lemmas.Result.{err_from_is_err_and}
use Rattle.protox_grammar.specs.Class.{but, in_set}
use Rattle.protox_rows.proofs.Lemmas as turns
use Rattle.protox_rows.specs.inner.Notes.{Adds, AddsTo}
use Rattle.protox_rows.specs.inner.Words.{Says, SaysOf}
use Rattle.protox_declarations.specs.inner.Bodies as rule
use Rattle.protox_declarations.specs.inner.BodyWords as said
use Rattle.protox_declarations.proofs.BodyTurns.{element-eats, oneof_element-eats, extend_element-eats, added, unadded, one_level, no_level, no_words, words_below}
use Rattle.protox_declarations.proofs.Labels.{labelled-field, plain-field}
use Rattle.protox_rows.specs.inner.Outcome.{Gives}
use Rattle.protox_declarations.proofs.bodies.+bodies.Goals as goal

pub field-returns-then-sees_label-clause-read : goal.field-returns-then-sees_label-clause-read
field-returns-then-sees_label-clause-read t c =
    subst (Gives (λ x. x) c.field_behind.result c.field_behind.new.rows) (labelled-field c.args.level c.args.rows.now _ c.again-begun.ensures _ _ (sym c.sees_label.ensures ∙ c.if-sees_label.true) c.in_ok-label.ensures.read) c.field_behind.ensures.read

pub field-returns-clause-read : goal.field-returns-clause-read
field-returns-clause-read t c =
    subst (Gives (λ x. x) c.field_behind-2.result c.field_behind-2.new.rows) (plain-field c.args.level c.args.rows.now _ c.again-begun.ensures (sym c.sees_label.ensures ∙ c.if-sees_label.false)) c.field_behind-2.ensures.read

pub elements-returns-in_err-element-clause-read : goal.elements-returns-in_err-element-clause-read
elements-returns-in_err-element-clause-read t c =
    let p = err_from_is_err_and c.from_residual.result c.from_residual.ensures.1 in
    let unread = unadded c.in_err-element.field-0.0 (rule.add_element c.more.inside) (rule.element_at c.args.level c.more.rows) c.in_err-element.ensures.read in
    rw (p.1, p.2) (turns.ends rule.add_element (in_set (but 48)) (rule.element_at c.args.level) (element-eats c.args.level) (rule.elements_at c.args.level c.args.rows.now) c.in_err-element.field-0.0 _ _ (sym c.sees_other.ensures ∙ c.more-test.true) unread c.more.invariant.read)

pub elements-returns-in_err-element-clause-notes : goal.elements-returns-in_err-element-clause-notes
elements-returns-in_err-element-clause-notes t c =
    let p = err_from_is_err_and c.from_residual.result c.from_residual.ensures.1 in
    let unread = unadded c.in_err-element.field-0.0 (rule.add_element c.more.inside) (rule.element_at c.args.level c.more.rows) c.in_err-element.ensures.read in
    rw (p.1, p.2) (turns.last-notes (but 48) (rule.element_at c.args.level) (rule.element_notes c.args.level) (element-eats c.args.level) c.in_err-element.field-0.0 c.args.notes.now.items c.more.notes.items c.element.new.notes.items (rule.elements_notes c.args.level c.args.rows.now) c.more.rows (sym c.sees_other.ensures ∙ c.more-test.true) unread c.in_err-element.ensures.notes c.more.invariant.notes)

pub elements-returns-in_err-element-clause-words : goal.elements-returns-in_err-element-clause-words
elements-returns-in_err-element-clause-words t c =
    let p = err_from_is_err_and c.from_residual.result c.from_residual.ensures.1 in
    let unread = unadded c.in_err-element.field-0.0 (rule.add_element c.more.inside) (rule.element_at c.args.level c.more.rows) c.in_err-element.ensures.read in
    rw (p.1, p.2) (turns.last-words (in_set (but 48)) (rule.element_at c.args.level) (said.element_at c.args.level) (element-eats c.args.level) c.in_err-element.field-0.0 (said.elements_at c.args.level c.args.rows.now) c.more.rows (sym c.sees_other.ensures ∙ c.more-test.true) unread c.in_err-element.ensures.words c.more.invariant.words)

pub elements-more-smaller : goal.elements-more-smaller
elements-more-smaller t c =
    let one = added (rule.add_element c.more.inside) (rule.element_at c.args.level c.more.rows) c.element.new.inside c.element.new.rows c.in_ok-element.ensures.read in
    turns.shorter (rule.element_at c.args.level) (element-eats c.args.level) c.more.rows c.element.new.rows one.0 one.1

pub elements-more-preserved : goal.elements-more-preserved
elements-more-preserved t c =
    let one = added (rule.add_element c.more.inside) (rule.element_at c.args.level c.more.rows) c.element.new.inside c.element.new.rows c.in_ok-element.ensures.read in
    let test = sym c.sees_other.ensures ∙ c.more-test.true in
    record {
      read = rw (sym one.2) (turns.more rule.add_element (in_set (but 48)) (rule.element_at c.args.level) (element-eats c.args.level) (rule.elements_at c.args.level c.args.rows.now) c.more.inside c.more.rows c.element.new.rows one.0 test one.1 c.more.invariant.read);
      notes = turns.more-notes (but 48) (rule.element_at c.args.level) (rule.element_notes c.args.level) (element-eats c.args.level) c.args.notes.now.items c.more.notes.items c.element.new.notes.items (rule.elements_notes c.args.level c.args.rows.now) c.more.rows c.element.new.rows one.0 test one.1 c.in_ok-element.ensures.notes c.more.invariant.notes;
      words = turns.more-words (in_set (but 48)) (rule.element_at c.args.level) (said.element_at c.args.level) (element-eats c.args.level) (said.elements_at c.args.level c.args.rows.now) c.more.rows c.element.new.rows one.0 test one.1 c.more.invariant.words;
    }

pub elements-returns-clause-read : goal.elements-returns-clause-read
elements-returns-clause-read t c = turns.done rule.add_element (in_set (but 48)) (rule.element_at c.args.level) (element-eats c.args.level) (rule.elements_at c.args.level c.args.rows.now) _ _ (sym c.sees_other.ensures ∙ c.more-test.false) c.more.invariant.read

pub elements-returns-clause-notes : goal.elements-returns-clause-notes
elements-returns-clause-notes t c = turns.no-notes (but 48) (rule.element_at c.args.level) (rule.element_notes c.args.level) (element-eats c.args.level) c.args.notes.now.items c.more.notes.items (rule.elements_notes c.args.level c.args.rows.now) c.more.rows (sym c.sees_other.ensures ∙ c.more-test.false) c.more.invariant.notes

pub oneof_elements-returns-in_err-element-clause-read : goal.oneof_elements-returns-in_err-element-clause-read
oneof_elements-returns-in_err-element-clause-read t c =
    let p = err_from_is_err_and c.from_residual.result c.from_residual.ensures.1 in
    rw (p.1, p.2) (turns.ends rule.add_oneof_element (in_set (but 48)) (rule.oneof_element_at c.args.level) (oneof_element-eats c.args.level) (rule.oneof_elements_at c.args.level c.args.rows.now) c.in_err-element.field-0.0 _ _ (sym c.sees_other.ensures ∙ c.oneof-test.true) c.in_err-element.ensures.read c.oneof.invariant.read)

pub oneof_elements-returns-in_err-element-clause-notes : goal.oneof_elements-returns-in_err-element-clause-notes
oneof_elements-returns-in_err-element-clause-notes t c =
    let p = err_from_is_err_and c.from_residual.result c.from_residual.ensures.1 in
    rw (p.1, p.2) (turns.last-notes (but 48) (rule.oneof_element_at c.args.level) (rule.oneof_element_notes c.args.level) (oneof_element-eats c.args.level) c.in_err-element.field-0.0 c.args.notes.now.items c.oneof.notes.items c.oneof_element.new.notes.items (rule.oneof_elements_notes c.args.level c.args.rows.now) c.oneof.rows (sym c.sees_other.ensures ∙ c.oneof-test.true) c.in_err-element.ensures.read c.in_err-element.ensures.notes c.oneof.invariant.notes)

pub oneof_elements-returns-in_err-element-clause-words : goal.oneof_elements-returns-in_err-element-clause-words
oneof_elements-returns-in_err-element-clause-words t c =
    let p = err_from_is_err_and c.from_residual.result c.from_residual.ensures.1 in
    rw (p.1, p.2) (turns.last-words (in_set (but 48)) (rule.oneof_element_at c.args.level) (said.oneof_element_at c.args.level) (oneof_element-eats c.args.level) c.in_err-element.field-0.0 (said.oneof_elements_at c.args.level c.args.rows.now) c.oneof.rows (sym c.sees_other.ensures ∙ c.oneof-test.true) c.in_err-element.ensures.read c.in_err-element.ensures.words c.oneof.invariant.words)

pub oneof_elements-oneof-smaller : goal.oneof_elements-oneof-smaller
oneof_elements-oneof-smaller t c = turns.shorter (rule.oneof_element_at c.args.level) (oneof_element-eats c.args.level) c.oneof.rows c.oneof_element.new.rows _ c.in_ok-element.ensures.read

pub oneof_elements-oneof-preserved : goal.oneof_elements-oneof-preserved
oneof_elements-oneof-preserved t c = record {
  read = rw c.in_ok-add_oneof_element.ensures (turns.more rule.add_oneof_element (in_set (but 48)) (rule.oneof_element_at c.args.level) (oneof_element-eats c.args.level) (rule.oneof_elements_at c.args.level c.args.rows.now) _ _ _ _ (sym c.sees_other.ensures ∙ c.oneof-test.true) c.in_ok-element.ensures.read c.oneof.invariant.read);
  notes = turns.more-notes (but 48) (rule.oneof_element_at c.args.level) (rule.oneof_element_notes c.args.level) (oneof_element-eats c.args.level) c.args.notes.now.items c.oneof.notes.items c.oneof_element.new.notes.items (rule.oneof_elements_notes c.args.level c.args.rows.now) c.oneof.rows c.oneof_element.new.rows _ (sym c.sees_other.ensures ∙ c.oneof-test.true) c.in_ok-element.ensures.read c.in_ok-element.ensures.notes c.oneof.invariant.notes;
  words = turns.more-words (in_set (but 48)) (rule.oneof_element_at c.args.level) (said.oneof_element_at c.args.level) (oneof_element-eats c.args.level) (said.oneof_elements_at c.args.level c.args.rows.now) _ _ _ (sym c.sees_other.ensures ∙ c.oneof-test.true) c.in_ok-element.ensures.read c.oneof.invariant.words;
}

pub oneof_elements-returns-clause-read : goal.oneof_elements-returns-clause-read
oneof_elements-returns-clause-read t c = turns.done rule.add_oneof_element (in_set (but 48)) (rule.oneof_element_at c.args.level) (oneof_element-eats c.args.level) (rule.oneof_elements_at c.args.level c.args.rows.now) _ _ (sym c.sees_other.ensures ∙ c.oneof-test.false) c.oneof.invariant.read

pub oneof_elements-returns-clause-notes : goal.oneof_elements-returns-clause-notes
oneof_elements-returns-clause-notes t c = turns.no-notes (but 48) (rule.oneof_element_at c.args.level) (rule.oneof_element_notes c.args.level) (oneof_element-eats c.args.level) c.args.notes.now.items c.oneof.notes.items (rule.oneof_elements_notes c.args.level c.args.rows.now) c.oneof.rows (sym c.sees_other.ensures ∙ c.oneof-test.false) c.oneof.invariant.notes

pub extend_elements-returns-in_err-element-clause-read : goal.extend_elements-returns-in_err-element-clause-read
extend_elements-returns-in_err-element-clause-read t c =
    let p = err_from_is_err_and c.from_residual.result c.from_residual.ensures.1 in
    rw (p.1, p.2) (turns.ends rule.add_extend_element (in_set (but 48)) (rule.extend_element_at c.args.level) (extend_element-eats c.args.level) (rule.extend_elements_at c.args.level c.args.rows.now) c.in_err-element.field-0.0 _ _ (sym c.sees_other.ensures ∙ c.extend-test.true) c.in_err-element.ensures.read c.extend.invariant.read)

pub extend_elements-returns-in_err-element-clause-notes : goal.extend_elements-returns-in_err-element-clause-notes
extend_elements-returns-in_err-element-clause-notes t c =
    let p = err_from_is_err_and c.from_residual.result c.from_residual.ensures.1 in
    rw (p.1, p.2) (turns.last-notes (but 48) (rule.extend_element_at c.args.level) (rule.extend_element_notes c.args.level) (extend_element-eats c.args.level) c.in_err-element.field-0.0 c.args.notes.now.items c.extend.notes.items c.extend_element.new.notes.items (rule.extend_elements_notes c.args.level c.args.rows.now) c.extend.rows (sym c.sees_other.ensures ∙ c.extend-test.true) c.in_err-element.ensures.read c.in_err-element.ensures.notes c.extend.invariant.notes)

pub extend_elements-returns-in_err-element-clause-words : goal.extend_elements-returns-in_err-element-clause-words
extend_elements-returns-in_err-element-clause-words t c =
    let p = err_from_is_err_and c.from_residual.result c.from_residual.ensures.1 in
    rw (p.1, p.2) (turns.last-words (in_set (but 48)) (rule.extend_element_at c.args.level) (said.extend_element_at c.args.level) (extend_element-eats c.args.level) c.in_err-element.field-0.0 (said.extend_elements_at c.args.level c.args.rows.now) c.extend.rows (sym c.sees_other.ensures ∙ c.extend-test.true) c.in_err-element.ensures.read c.in_err-element.ensures.words c.extend.invariant.words)

pub extend_elements-extend-smaller : goal.extend_elements-extend-smaller
extend_elements-extend-smaller t c = turns.shorter (rule.extend_element_at c.args.level) (extend_element-eats c.args.level) c.extend.rows c.extend_element.new.rows _ c.in_ok-element.ensures.read

pub extend_elements-extend-preserved : goal.extend_elements-extend-preserved
extend_elements-extend-preserved t c = record {
  read = rw c.in_ok-add_extend_element.ensures (turns.more rule.add_extend_element (in_set (but 48)) (rule.extend_element_at c.args.level) (extend_element-eats c.args.level) (rule.extend_elements_at c.args.level c.args.rows.now) _ _ _ _ (sym c.sees_other.ensures ∙ c.extend-test.true) c.in_ok-element.ensures.read c.extend.invariant.read);
  notes = turns.more-notes (but 48) (rule.extend_element_at c.args.level) (rule.extend_element_notes c.args.level) (extend_element-eats c.args.level) c.args.notes.now.items c.extend.notes.items c.extend_element.new.notes.items (rule.extend_elements_notes c.args.level c.args.rows.now) c.extend.rows c.extend_element.new.rows _ (sym c.sees_other.ensures ∙ c.extend-test.true) c.in_ok-element.ensures.read c.in_ok-element.ensures.notes c.extend.invariant.notes;
  words = turns.more-words (in_set (but 48)) (rule.extend_element_at c.args.level) (said.extend_element_at c.args.level) (extend_element-eats c.args.level) (said.extend_elements_at c.args.level c.args.rows.now) _ _ _ (sym c.sees_other.ensures ∙ c.extend-test.true) c.in_ok-element.ensures.read c.extend.invariant.words;
}

pub extend_elements-returns-clause-read : goal.extend_elements-returns-clause-read
extend_elements-returns-clause-read t c = turns.done rule.add_extend_element (in_set (but 48)) (rule.extend_element_at c.args.level) (extend_element-eats c.args.level) (rule.extend_elements_at c.args.level c.args.rows.now) _ _ (sym c.sees_other.ensures ∙ c.extend-test.false) c.extend.invariant.read

pub extend_elements-returns-clause-notes : goal.extend_elements-returns-clause-notes
extend_elements-returns-clause-notes t c = turns.no-notes (but 48) (rule.extend_element_at c.args.level) (rule.extend_element_notes c.args.level) (extend_element-eats c.args.level) c.args.notes.now.items c.extend.notes.items (rule.extend_elements_notes c.args.level c.args.rows.now) c.extend.rows (sym c.sees_other.ensures ∙ c.extend-test.false) c.extend.invariant.notes

pub mbody-returns-then-level-eq0-clause-notes : goal.mbody-returns-then-level-eq0-clause-notes
mbody-returns-then-level-eq0-clause-notes t c =
    subst (λ v. AddsTo c.refuse_deep_body.result c.args.notes.now.items v c.refuse_deep_body.new.notes.items) (sym (no_level c.args.level c.if-level-eq0.true c.args.word.now c.args.rows.now)) c.refuse_deep_body.ensures.notes

pub mbody-returns-clause-notes : goal.mbody-returns-clause-notes
mbody-returns-clause-notes t c =
    subst (λ v. Adds c.braces.result c.args.notes.now.items v c.braces.new.notes.items) (sym (one_level c.args.level c.if-level-eq0.false c.args.word.now c.args.rows.now)) c.braces.ensures.notes

pub mbody-returns-then-level-eq0-clause-words : goal.mbody-returns-then-level-eq0-clause-words
mbody-returns-then-level-eq0-clause-words t c =
    subst (SaysOf c.refuse_deep_body.result) (sym (no_words c.args.level c.if-level-eq0.true c.args.expected c.args.rows.now)) c.refuse_deep_body.ensures.words

pub mbody-returns-clause-words : goal.mbody-returns-clause-words
mbody-returns-clause-words t c =
    subst (Says c.braces.result) (sym (words_below c.args.level c.if-level-eq0.false c.args.expected c.args.rows.now)) c.braces.ensures.words
