use Rattle.std.proofs.Common.{◌≤◌, ◌-◌, length, slice_range}
use Rattle.protox_text_format.specs.inner.Scalars.{StringsTo}
use Rattle.protox_text_format.proofs.scalars.behind_strings.Given as goal

abbrev pub invariant-strings : goal.invariant-strings
invariant-strings l = record {
  within : l.at ≤ length l.pieces;
  strings : StringsTo l.pieces (slice_range l.pieces l.at (length l.pieces));
}

abbrev pub decreases-strings : goal.decreases-strings
decreases-strings l = length l.pieces - l.at
