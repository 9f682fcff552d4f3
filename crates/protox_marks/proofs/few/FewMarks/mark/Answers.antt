use Rattle.std.proofs.Common.{◌∙◌, ◌+◌, ◌-◌, ◌/◌, ◌%◌, ◌<◌, ◌++◌, ◌∷◌, [], ap, arith, bit_or, length, set, sym}
use Rattle.std.proofs.lemmas.List.{get_or_default}
use Rattle.std.proofs.lemmas.Nat.{one_shl}
use Rattle.protox_marks.specs.Few.{holds}
use Rattle.protox_marks.proofs.Words.{mark_more, mark_pushed}
use Rattle.protox_marks.proofs.few.FewMarks.mark.Goals as goal

pub returns-then-index : goal.returns-then-index
returns-then-index c n =
    let words = c.args.self.now.words.items in
    let number = c.args.number in
    let last = c.len-count.result - 1 in
    let old = c.index_mut.result.now in
    let within : last < length words = omega (arith, c.if-count-gt0.true, c.len-count.ensures, c.args.self.now.words.ok) in
    let shifted = one_shl (number % 64) 64 (omega arith) in
    let seen = c.index.ensures ∙ get_or_default words last c.index.result.now old within ∙ sym c.index_mut.ensures.value in
    let index = c.if-index.true in
    ap (λ bit. holds (set words last (record { index = old.index; bits = bit_or old.bits bit })) n) shifted
    ∙ mark_more words last number old n within (sym c.index_mut.ensures.value) (sym (ap (λ word. word.index) seen) ∙ index)

pub returns : goal.returns
returns c n =
    let words = c.args.self.now.words.items in
    let number = c.args.number in
    let shifted = one_shl (number % 64) 64 (omega arith) in
    ap (λ items. holds items n) c.in_ok-push.ensures.items
    ∙ ap (λ bit. holds (words ++ record { index = number / 64; bits = bit } ∷ []) n) shifted
    ∙ mark_pushed words number n
