use Rattle.std.proofs.Common.{◌≡◌, ◌≤◌, ◌++◌, length, drop}
use Rattle.protox_encode.specs.Payloads.{texts}
use Rattle.protox_encode.specs.Wire.{part}
use Rattle.protox_encode.proofs.wire.prepend_texts.Given as goal

abbrev pub invariant-loop-i : goal.invariant-loop-i
invariant-loop-i l = record {
  within : l.i ≤ length l.values;
  behind : l.out ≡ part l.number (texts (drop l.i l.values)) ++ l.fn.out;
}

abbrev pub decreases-loop-i : goal.decreases-loop-i
decreases-loop-i l = l.i
