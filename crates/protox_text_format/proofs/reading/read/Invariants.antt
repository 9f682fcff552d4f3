use Rattle.std.proofs.Common.{◌≤◌, [], length, slice_range}
use Rattle.protox_text_format.specs.declared.reading.Turn.TheVariants.{Field}
use Rattle.protox_text_format.specs.inner.Reading.{Goes, place, spot, weight}
use Rattle.protox_text_format.proofs.reading.read.Given as goal

abbrev pub invariant-steps : goal.invariant-steps
invariant-steps l = record {
  within : l.at ≤ length l.pieces;
  goes : Goes (place Field [] l.pieces []) (spot l.turn l.frames.items (slice_range l.pieces l.at (length l.pieces)) l.items.items);
}

abbrev pub decreases-steps : goal.decreases-steps
decreases-steps l = weight l.turn (slice_range l.pieces l.at (length l.pieces))
