use Rattle.std.proofs.Common.{◌≡◌, take}
use Rattle.protox_interpret.specs.Statements.{steps_of}
use Rattle.protox_interpret.proofs.fields.steps_of.Given as goal

-- the fields so far
abbrev pub invariant-loop-number : goal.invariant-loop-number
invariant-loop-number l = l.steps.items ≡ steps_of l.here (take l.number-index l.fields)
