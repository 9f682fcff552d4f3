use Rattle.std.proofs.Common.{◌≡◌, take}
use Rattle.protox_interpret.specs.Statements.{numbers_of, steps_of}
use Rattle.protox_interpret.proofs.fields.numbers_of.Given as goal

-- the fields so far
abbrev pub invariant-loop-number : goal.invariant-loop-number
invariant-loop-number l = l.numbers.items ≡ numbers_of (steps_of l.here (take l.number-index l.fields))
