use Rattle.std.proofs.Common.{◌≡◌, ◌≤◌, ◌-◌, length, drop, map, Option}
use Rattle.protox_comments.specs.inner.Attributing.{outcome}
use Rattle.protox_lexeme.specs.Shapes.{Shape}
use Rattle.protox_lexeme.specs.Tokens.{shape_of}
use Rattle.protox_comments.proofs.comments.Comments.take_from.Given as goal

abbrev pub invariant-tokens : goal.invariant-tokens
invariant-tokens l = record {
  within : l.at ≤ length l.gap;
  so_far : (next : Option Shape) → outcome l.self (map shape_of (drop l.at l.gap)) next ≡ outcome l.initial.self (map shape_of (drop l.from l.gap)) next;
}

abbrev pub decreases-tokens : goal.decreases-tokens
decreases-tokens l = length l.gap - l.at
