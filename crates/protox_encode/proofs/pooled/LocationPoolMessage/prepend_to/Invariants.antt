use Rattle.std.proofs.Common.{◌≡◌, ◌≤◌, ◌++◌, length, drop}
use Rattle.protox_encode.specs.Messages.{location}
use Rattle.protox_encode.specs.Payloads.{each}
use Rattle.protox_encode.specs.Wire.{part}
use Rattle.protox_encode.proofs.pooled.LocationPoolMessage.prepend_to.Given as goal

abbrev pub invariant-loop-i : goal.invariant-loop-i
invariant-loop-i l = record {
  within : l.i ≤ length l.self;
  behind : l.out ≡ part 1 (each location (drop l.i l.self)) ++ l.fn.out;
}

abbrev pub decreases-loop-i : goal.decreases-loop-i
decreases-loop-i l = l.i
