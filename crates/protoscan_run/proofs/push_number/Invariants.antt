use Rattle.std.proofs.Common.{◌≤◌}
use Rattle.protoscan_run.proofs.push_number.Given as goal

abbrev pub invariant-loop-place : goal.invariant-loop-place
invariant-loop-place l = l.start ≤ 10
