use Rattle.std.proofs.Common.{◌≡◌, ◌+◌, ◌≤◌, length}
use Rattle.protox_declarations.specs.inner.Options.{inside}
use Rattle.protox_declarations.proofs.Aggregates.{left_inside}
use Rattle.protox_declarations.proofs.values.inside.Given as goal

abbrev pub invariant-tokens : goal.invariant-tokens
invariant-tokens l = record {
  read : left_inside l.text l.first l.unclosed l.rows ≡ inside l.fn.rows;
  fits : l.unclosed + length l.rows ≤ l._most;
}

abbrev pub decreases-tokens : goal.decreases-tokens
decreases-tokens l = length l.rows
