use Rattle.std.proofs.Common.{take}
use Rattle.protox_usage.specs.First.{AreFirst}
use Rattle.protox_usage.proofs.first.note_all.Given as goal

abbrev pub invariant-loop-number : goal.invariant-loop-number
invariant-loop-number l = AreFirst l.files (take l.number-index l.order) l.first
