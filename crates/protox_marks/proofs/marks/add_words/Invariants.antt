use Rattle.std.proofs.Common.{◌≡◌, ◌<◌, ◌≤◌, ℕ, length, bit_or}
use Rattle.std.specs.Prelude.{slice_index_or}
use Rattle.protox_marks.proofs.marks.add_words.Given as goal

abbrev pub invariant-loop-index : goal.invariant-loop-index
invariant-loop-index l = record {
  size : length l.words ≡ length l.fn.words;
  done : (n : ℕ) → n < l.index → slice_index_or l.words n 0 ≡ bit_or (slice_index_or l.fn.words n 0) (slice_index_or l.more n 0);
  left : (n : ℕ) → l.index ≤ n → slice_index_or l.words n 0 ≡ slice_index_or l.fn.words n 0;
}
