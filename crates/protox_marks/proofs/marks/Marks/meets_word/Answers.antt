use Rattle.std.proofs.Common.{◌≡◌, ◌∙◌, ◌≤◌, ◌<◌, inl, inr, true, false, ap, arith, length, sym}
use Rattle.std.proofs.lemmas.Bool.{false≢true}
use Rattle.std.proofs.lemmas.Bool.Decides.{Decides-ltb, leb_tells}
use Rattle.std.proofs.lemmas.List.{get_or_default, get_or_past}
use Rattle.std.proofs.lemmas.Nat.Bits.{bit_at-zero}
use Rattle.std.specs.Int.{bit_at}
use Rattle.std.specs.Prelude.{slice_index_or}
use Rattle.protox_marks.specs.Few.{has}
use Rattle.protox_marks.specs.Marks.{any_marked, marks_of}
use Rattle.protox_marks.proofs.Words.{meets_at, meets_none, true_or_false}
use Rattle.protox_marks.proofs.marks.Marks.meets_word.Goals as goal

pub returns-in-Some : goal.returns-in-Some
returns-in-Some c =
    let words = c.self.inside.words.items in
    let count = c.self.inside.count in
    let word = c.args.word.now in
    let own = c.in-Some.own.now in
    let below : word.index < length words =
    let there : word.index < length c.deref.result.now = (Decides-ltb word.index (length c.deref.result.now)).0 (sym c.in-Some.ensures.lookup.0) in
    omega (arith, there, ap length c.deref.ensures.value) in
    let is : slice_index_or words word.index 0 ≡ own =
    get_or_default words word.index 0 own below
    ∙ ap (λ items. slice_index_or items word.index own) (sym c.deref.ensures.value)
    ∙ sym c.in-Some.ensures.lookup.1 in
    let there : any_marked c.args.self.now (has word) ≡ any_marked (marks_of words count) (has word) = ap (λ marks. any_marked marks (has word)) (sym c.self.view_is) in
    elim (true_or_false c.share.result) [
      | inl shared ↦
          let bit = c.share.ensures.some shared in
          shared ∙ sym (there ∙ meets_at words count word bit.0 c.self.invariant.1 bit.1 (ap (λ w. bit_at w bit.0) is ∙ bit.2) bit.3)
      | inr apart ↦
          apart ∙ sym (there ∙ meets_none words count word (λ i small own_bit other. c.share.ensures.none apart (i, small, sym (ap (λ w. bit_at w i) is) ∙ own_bit, other)))
    ]

pub returns-in-None : goal.returns-in-None
returns-in-None c =
    let words = c.self.inside.words.items in
    let count = c.self.inside.count in
    let word = c.args.word.now in
    let past : length words ≤ word.index = elim (leb_tells (length words) word.index) [
      | inl (_, past) ↦ past
      | inr (_, below) ↦ absurd (false≢true (c.in-None.ensures.lookup.0 ∙ (Decides-ltb word.index (length c.deref.result.now)).1 (omega (arith, below, ap length c.deref.ensures.value))))
    ] in
    sym (ap (λ marks. any_marked marks (has word)) (sym c.self.view_is) ∙ meets_none words count word (λ i small own other.
    let none = sym own ∙ ap (λ w. bit_at w i) (get_or_past words word.index 0 past) ∙ bit_at-zero i in omega (arith, none)))
