use Rattle.std.proofs.Common.{◌≤◌, ◌-◌, length, drop, map}
use Rattle.protox_comments.specs.inner.Attributing.{Lines}
use Rattle.protox_lexeme.specs.Tokens.{shape_of}
use Rattle.protox_comments.proofs.sides.are_lines.Given as goal

abbrev pub invariant-lines : goal.invariant-lines
invariant-lines l = record {
  from : l.from ≤ l.at;
  within : l.at ≤ length l.gap;
  so_far : Lines (map shape_of (drop l.at l.gap)) → Lines (map shape_of (drop l.from l.gap));
}

abbrev pub decreases-lines : goal.decreases-lines
decreases-lines l = length l.gap - l.at
