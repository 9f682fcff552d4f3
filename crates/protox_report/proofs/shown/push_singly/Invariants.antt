use Rattle.std.proofs.Common.{◌≡◌, ◌++◌, replicate}
use Rattle.std.specs.String.{string_bytes}
use Rattle.protox_report.proofs.shown.push_singly.Given as goal

abbrev pub invariant-loop-done : goal.invariant-loop-done
invariant-loop-done l = string_bytes l.out ≡ string_bytes l.initial.out ++ replicate l.done l.mark
