use Rattle.std.proofs.Common.{◌≡◌, ◌≤◌, ◌++◌, length, drop}
use Rattle.protox_encode.specs.Messages.{file_descriptor}
use Rattle.protox_encode.specs.Payloads.{each}
use Rattle.protox_encode.specs.Wire.{part}
use Rattle.protox_encode.proofs.wire.prepend_files.Given as goal

abbrev pub invariant-loop-i : goal.invariant-loop-i
invariant-loop-i l = record {
  within : l.i ≤ length l.files;
  behind : l.out ≡ part 1 (each file_descriptor (drop l.i l.files)) ++ l.fn.out;
}

abbrev pub decreases-loop-i : goal.decreases-loop-i
decreases-loop-i l = l.i
