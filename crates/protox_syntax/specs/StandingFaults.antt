-- Each fault of a lexeme or of an unexpected token stands in the source.
use Rattle.std.specs.Prelude.{ℕ, List}
use Rattle.protox_fault.specs.declared.error.SyntaxFailure.{SyntaxFailure}
use Rattle.protox_fault.specs.declared.error.SyntaxFailure.TheVariants.{Faults, OutOfMemory}
use Rattle.protox_lexeme.specs.Lexemes.{cut}
use Rattle.protox_ast.specs.FaultList.{StandIn}

-- Each such fault stands somewhere in the source, and no lexical fault is listed twice; or memory
-- ran out.
abbrev pub AreStanding : List ℕ → SyntaxFailure → Type 0
AreStanding source OutOfMemory = Unit {0}
AreStanding source (Faults v) = StandIn (cut 0 source) v.items
