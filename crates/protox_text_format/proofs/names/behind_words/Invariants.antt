use Rattle.std.proofs.Common.{◌≤◌, ◌-◌, length, slice_range}
use Rattle.protox_text_format.specs.inner.Names.{WordsTo}
use Rattle.protox_text_format.proofs.names.behind_words.Given as goal

abbrev pub invariant-words : goal.invariant-words
invariant-words l = record {
  within : l.at ≤ length l.pieces;
  words : WordsTo l.pieces (slice_range l.pieces l.at (length l.pieces));
}

abbrev pub decreases-words : goal.decreases-words
decreases-words l = length l.pieces - l.at
