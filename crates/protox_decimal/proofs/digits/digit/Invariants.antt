use Rattle.std.proofs.Common.{◌≡◌, ◌+◌, ◌*◌}
use Rattle.protox_decimal.proofs.digits.digit.Given as goal

abbrev pub invariant-loop-over : goal.invariant-loop-over
invariant-loop-over l = l.fn.over ≡ l.count * l.under + l.over

abbrev pub decreases-loop-over : goal.decreases-loop-over
decreases-loop-over l = l.over
