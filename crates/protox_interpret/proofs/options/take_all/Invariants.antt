use Rattle.std.proofs.Common.{take}
use Rattle.protox_interpret.proofs.Kept.{AreTaken}
use Rattle.protox_interpret.proofs.options.take_all.Given as goal

-- the statements so far are taken
abbrev pub invariant-loop-index : goal.invariant-loop-index
invariant-loop-index l = AreTaken l.here (take l.index l.statements) l.work
