use Rattle.std.proofs.Common.{◌∙◌, ◌+◌, drop, ap, arith, sym}
use Rattle.std.proofs.lemmas.List.{drop_all, drop_more}
use Rattle.protox_marks.specs.Few.{holds}
use Rattle.protox_marks.specs.Marks.{any_marked}
use Rattle.protox_marks.proofs.Words.{none_among, word_met, words_left}
use Rattle.protox_marks.proofs.marks.Marks.meets.Goals as goal

pub returns-then-meets_word : goal.returns-then-meets_word
returns-then-meets_word c =
    let marks = c.args.self.now in
    let items = c.deref-word-items.result.now in
    let i = c.loop-word.word-index in
    sym (c.loop-word.invariant
    ∙ ap (λ left. any_marked marks (holds left)) (drop_more items i _ c.loop-word-test.true)
    ∙ word_met marks _ (drop (i + 1) items) (sym c.meets_word.ensures ∙ c.if-meets_word.true))

pub loop-word-preserved : goal.loop-word-preserved
loop-word-preserved c =
    let marks = c.args.self.now in
    let items = c.deref-word-items.result.now in
    let i = c.loop-word.word-index in
    c.loop-word.invariant
    ∙ ap (λ left. any_marked marks (holds left)) (drop_more items i _ c.loop-word-test.true)
    ∙ words_left marks _ (drop (i + 1) items) (sym c.meets_word.ensures ∙ c.if-meets_word.false)

pub returns : goal.returns
returns c =
    let marks = c.args.self.now in
    let items = c.deref-word-items.result.now in
    sym (c.loop-word.invariant ∙ ap (λ left. any_marked marks (holds left)) (drop_all c.loop-word.word-index items (omega (arith, c.loop-word-test.false))) ∙ none_among marks)
