use Rattle.std.proofs.Common.{◌≡◌, ◌≤◌, ◌++◌, length, drop}
use Rattle.protox_encode.specs.Payloads.{each}
use Rattle.protox_encode.specs.Wire.{part}
use Rattle.protox_encode.proofs.wire.prepend_each.Given as goal

abbrev pub invariant-loop-i : goal.invariant-loop-i
invariant-loop-i g l = record {
  within : l.i ≤ length l.items;
  behind : l.out ≡ part l.number (each g.M.Message.parts (drop l.i l.items)) ++ l.fn.out;
}

abbrev pub decreases-loop-i : goal.decreases-loop-i
decreases-loop-i g l = l.i
