use Rattle.std.proofs.Common.{◌≡◌, ℕ, ◌≤◌, ◌-◌, List, [], ◌∷◌, length, drop, None}
use Rattle.protox_lexeme.specs.BlockComments.{Mark, closes, marks, marks_of}
use Rattle.protox_lexeme.specs.inner.Nesting.{run}
use Rattle.protox_lexeme.proofs.block_comment.read_marks.Given as goal

abbrev pub invariant-marks : goal.invariant-marks
invariant-marks l = record {
  low : 2 ≤ l.at;
  high : l.at ≤ length l.bytes;
  few : l.levels.inner ≤ l.at;
  whole : run l.start (marks l.at (drop l.at l.bytes)) l.levels.inner l.levels.last l.levels.settled.items l.levels.since.items ≡ run l.start (marks_of l.bytes) 0 None [] [];
  calm : (k : ℕ) (rest : List Mark) → marks_of l.bytes ≡ closes k ∷ rest → (l.levels.inner ≡ 0) × (l.levels.since.items ≡ []) × (marks l.at (drop l.at l.bytes) ≡ marks_of l.bytes);
}

abbrev pub decreases-marks : goal.decreases-marks
decreases-marks l = length l.bytes - l.at
