use Rattle.std.proofs.Common.{◌≡◌, ℕ, ◌<◌, ◌≤◌, length, get_or}
use Rattle.protox_decimal.proofs.layout.trimmed.Given as goal

abbrev pub invariant-loop-end : goal.invariant-loop-end
invariant-loop-end l = (l.end ≤ length l.bytes) × ((k : ℕ) → l.end ≤ k → k < length l.bytes → get_or l.bytes k 0 ≡ 48)

abbrev pub decreases-loop-end : goal.decreases-loop-end
decreases-loop-end l = l.end
