use Rattle.std.proofs.Common.{◌∙◌, ◌==◌, ◌/◌, ◌%◌, ◌<◌, false, ap, arith, length, sym}
use Rattle.std.proofs.lemmas.List.{get_or_default}
use Rattle.std.proofs.lemmas.Nat.Bits.{shr_and_one}
use Rattle.std.specs.Int.{bit_at}
use Rattle.std.specs.Prelude.{slice_index_or}
use Rattle.protox_marks.proofs.Bits.{marked_below, marked_past}
use Rattle.protox_marks.proofs.marks.Marks.has.Goals as goal

pub returns-then-number-self : goal.returns-then-number-self
returns-then-number-self c =
    sym (marked_past c.self.inside.words.items c.self.inside.count c.args.number (omega (arith, c.if-number-self.true)))
    ∙ ap (λ marks. slice_index_or marks c.args.number false) c.self.view_is

pub returns : goal.returns
returns c =
    let words = c.self.inside.words.items in
    let number = c.args.number in
    let below = c.if-number-self.false in
    let within : number / 64 < length words = omega (arith, below, c.self.invariant.0) in
    ap (λ bit. bit == 1) (shr_and_one c.index.result.now (number % 64))
    ∙ ap (λ word. bit_at word (number % 64) == 1) (c.index.ensures ∙ get_or_default words (number / 64) c.index.result.now 0 within)
    ∙ sym (marked_below words c.self.inside.count number below)
    ∙ ap (λ marks. slice_index_or marks number false) c.self.view_is
