use Rattle.std.proofs.Common.{◌≡◌, ◌++◌, replicate}
use Rattle.std.specs.String.{string_bytes}
use Rattle.protox_report.proofs.shown.push_sixteens.Given as goal

abbrev pub invariant-full : goal.invariant-full
invariant-full l = string_bytes l.out ++ replicate l.left l.mark ≡ string_bytes l.initial.out ++ replicate l.count l.mark

abbrev pub decreases-full : goal.decreases-full
decreases-full l = l.left
