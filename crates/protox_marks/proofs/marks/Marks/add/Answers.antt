use Rattle.std.proofs.Common.{◌≡◌, ◌∙◌, ◌||◌, ℕ, false, ap, arith, length, bit_or}
use Rattle.std.proofs.lemmas.List.{with_items_is}
use Rattle.std.specs.Prelude.{slice_index_or}
use Rattle.protox_marks.specs.Marks.{is_set, marks_of}
use Rattle.protox_marks.proofs.Bits.{count_of, both_marked, neither_set}
use Rattle.protox_marks.proofs.marks.Marks.add.Goals as goal

pub add_words-requires : goal.add_words-requires
add_words-requires c =
    let own = ap length c.self.view_is in
    let others = ap length c.other.view_is in
    let size = ap length c.deref_mut.ensures.value in
    let other_size = ap length c.deref.ensures.value in
    omega (arith, own, others, size, other_size, c.requires, c.self.invariant.0, c.other.invariant.0, count_of c.self.inside.words.items c.self.inside.count, count_of c.other.inside.words.items c.other.inside.count)

pub returns-clause-both : goal.returns-clause-both
returns-clause-both c = λ n.
    let words = c.add_words.new.words in
    let old = c.self.inside.words.items in
    let more = c.other.inside.words.items in
    let count = c.self.inside.count in
    let size = c.add_words.ensures.len ∙ c.deref_mut.ensures.len in
    let own = ap length c.self.view_is in
    let others = ap length c.other.view_is in
    let as_many : count ≡ c.other.inside.count = omega (arith, own, others, c.requires, count_of old count, count_of more c.other.inside.count) in
    let both : (index : ℕ) → slice_index_or words index 0 ≡ bit_or (slice_index_or old index 0) (slice_index_or more index 0) = λ index.
    c.add_words.ensures.both index
    ∙ ap (λ word. bit_or word (slice_index_or c.deref.result.now index 0)) (ap (λ words. slice_index_or words index 0) c.deref_mut.ensures.value)
    ∙ ap (λ word. bit_or (slice_index_or old index 0) word) (ap (λ words. slice_index_or words index 0) c.deref.ensures.value) in
    ap (λ words. slice_index_or (marks_of words count) n false) (with_items_is c.self.inside.words words size)
    ∙ both_marked words old more count n both
    ∙ ap (λ marks. slice_index_or marks n false || slice_index_or (marks_of more count) n false) c.self.view_is
    ∙ ap (λ marks. slice_index_or c.args.self.now n false || slice_index_or marks n false) (ap (marks_of more) as_many ∙ c.other.view_is)

pub invariant_of-self : goal.invariant_of-self
invariant_of-self c =
    let words = c.add_words.new.words in
    let old = c.self.inside.words.items in
    let more = c.other.inside.words.items in
    let count = c.self.inside.count in
    let size = c.add_words.ensures.len ∙ c.deref_mut.ensures.len in
    let own = ap length c.self.view_is in
    let others = ap length c.other.view_is in
    let as_many : count ≡ c.other.inside.count = omega (arith, own, others, c.requires, count_of old count, count_of more c.other.inside.count) in
    let both : (index : ℕ) → slice_index_or words index 0 ≡ bit_or (slice_index_or old index 0) (slice_index_or more index 0) = λ index.
    c.add_words.ensures.both index
    ∙ ap (λ word. bit_or word (slice_index_or c.deref.result.now index 0)) (ap (λ words. slice_index_or words index 0) c.deref_mut.ensures.value)
    ∙ ap (λ word. bit_or (slice_index_or old index 0) word) (ap (λ words. slice_index_or words index 0) c.deref.ensures.value) in
    let many : length words ≡ length old = omega (arith, c.add_words.ensures.len, ap length c.deref_mut.ensures.value) in
    let whole = with_items_is c.self.inside.words words size in (
      ap length whole ∙ many ∙ c.self.invariant.0,
      λ n past. ap (λ words. is_set words n) whole ∙ neither_set words old more n both (c.self.invariant.1 n past) (c.other.invariant.1 n (omega (arith, past, as_many))),
    )
