use Rattle.protox_name_tree.specs.Slots.{AreTaken}
use Rattle.protox_name_tree.proofs.slots.Slots.free.Given as goal

-- no slot so far is free
abbrev pub invariant-loop-step : goal.invariant-loop-step
invariant-loop-step l = AreTaken l.self l.mixed l.step
