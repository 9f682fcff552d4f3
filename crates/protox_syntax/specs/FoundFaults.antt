-- A refusal has all faults of its source.
use Rattle.std.specs.Prelude.{ℕ, List}
use Rattle.protox_fault.specs.declared.error.SyntaxFailure.{SyntaxFailure}
use Rattle.protox_fault.specs.declared.error.SyntaxFailure.TheVariants.{Faults, OutOfMemory}
use Rattle.protox_syntax.specs.AllFaults.{AreAllFaults}

-- The list has all faults of the source, in their order. Only the words of what was expected may
-- differ. Or memory ran out.
abbrev pub AreAllFound : List ℕ → SyntaxFailure → Type 0
AreAllFound source OutOfMemory = Unit {0}
AreAllFound source (Faults v) = AreAllFaults source v.items
