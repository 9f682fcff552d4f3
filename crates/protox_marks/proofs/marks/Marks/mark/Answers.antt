use Rattle.std.proofs.Common.{◌≡◌, ◌∙◌, ◌/◌, ◌%◌, ◌^◌, ◌*◌, ◌<◌, true, ap, arith, bit_or, length, length-set, set}
use Rattle.std.proofs.lemmas.Nat.{one_shl}
use Rattle.std.proofs.lemmas.List.{get_or_default}
use Rattle.std.specs.Prelude.{slice_index_or}
use Rattle.protox_marks.specs.Marks.{is_set, marks_of}
use Rattle.protox_marks.proofs.Bits.{count_of, one_marked, set_other}
use Rattle.protox_marks.proofs.marks.Marks.mark.Goals as goal

pub index_mut-requires : goal.index_mut-requires
index_mut-requires c =
    let same = ap length c.self.view_is in
    omega (arith, c.requires, same, count_of c.self.inside.words.items c.self.inside.count, c.self.invariant.0, c.self.inside.words.ok.0)

pub returns : goal.returns
returns c =
    let words = c.self.inside.words.items in
    let count = c.self.inside.count in
    let number = c.args.number in
    let same = ap length c.self.view_is in
    let below : number < count = omega (arith, c.requires, same, count_of words count) in
    let within : number / 64 < length words = omega (arith, below, c.self.invariant.0) in
    let shifted = one_shl (number % 64) 64 (omega arith) in
    let word : c.index_mut.result.now ≡ slice_index_or words (number / 64) 0 = c.index_mut.ensures.value ∙ get_or_default words (number / 64) c.index_mut.result.now 0 within in
    ap (λ word. marks_of (set words (number / 64) (bit_or word ((1 * 2 ^ (number % 64)) % 2 ^ 64))) count) word
    ∙ ap (λ bit. marks_of (set words (number / 64) (bit_or (slice_index_or words (number / 64) 0) bit)) count) shifted
    ∙ one_marked words count number below within
    ∙ ap (λ marks. set marks number true) c.self.view_is

pub invariant_of-self : goal.invariant_of-self
invariant_of-self c =
    let words = c.self.inside.words.items in
    let count = c.self.inside.count in
    let number = c.args.number in
    let same = ap length c.self.view_is in
    let below : number < count = omega (arith, c.requires, same, count_of words count) in
    let within : number / 64 < length words = omega (arith, below, c.self.invariant.0) in
    let shifted = one_shl (number % 64) 64 (omega arith) in
    let word : c.index_mut.result.now ≡ slice_index_or words (number / 64) 0 = c.index_mut.ensures.value ∙ get_or_default words (number / 64) c.index_mut.result.now 0 within in (
      length-set words (number / 64) _ ∙ c.self.invariant.0,
      λ n past. ap (λ word. is_set (set words (number / 64) (bit_or word ((1 * 2 ^ (number % 64)) % 2 ^ 64))) n) word
          ∙ ap (λ bit. is_set (set words (number / 64) (bit_or (slice_index_or words (number / 64) 0) bit)) n) shifted
          ∙ set_other words count number below within n (λ left. omega (arith, left, below, past)) ∙ c.self.invariant.1 n past,
    )
