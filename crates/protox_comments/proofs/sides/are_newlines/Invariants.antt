use Rattle.std.proofs.Common.{◌≤◌, ◌-◌, length, drop, map}
use Rattle.protox_comments.specs.inner.Attributing.{Newlines}
use Rattle.protox_lexeme.specs.Tokens.{shape_of}
use Rattle.protox_comments.proofs.sides.are_newlines.Given as goal

abbrev pub invariant-newlines : goal.invariant-newlines
invariant-newlines l = record {
  from : l.from ≤ l.at;
  within : l.at ≤ length l.gap;
  so_far : Newlines (map shape_of (drop l.at l.gap)) → Newlines (map shape_of (drop l.from l.gap));
}

abbrev pub decreases-newlines : goal.decreases-newlines
decreases-newlines l = length l.gap - l.at
