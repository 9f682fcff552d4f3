use Rattle.std.proofs.Common.{◌≡◌, ◌≤◌, ◌+◌, length}
use Rattle.protox_syntax.specs.inner.Recovery.{behind_block}
use Rattle.protox_syntax.proofs.recovery.skip_block.Given as goal

abbrev pub invariant-rows : goal.invariant-rows
invariant-rows l = record {
  rest : behind_block l.depth l.rows ≡ behind_block 0 l.fn.rows;
  few : l.depth + length l.rows ≤ l.most;
}

abbrev pub decreases-rows : goal.decreases-rows
decreases-rows l = length l.rows
