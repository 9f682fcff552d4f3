-- The first fault of a refusal.
use Rattle.std.specs.Prelude.{ℕ, List, IfSome}
use Rattle.protox_fault.specs.declared.error.SyntaxFailure.{SyntaxFailure}
use Rattle.protox_fault.specs.declared.error.SyntaxFailure.TheVariants.{Faults, OutOfMemory}
use Rattle.protox_lexeme.specs.Lexemes.{cut}
use Rattle.protox_ast.specs.Basics.{first_of}
use Rattle.protox_ast.specs.FirstFault.{IsFirstFault}

-- The list begins with the first fault of the source; or memory ran out.
abbrev pub BeginsWithFirst : List ℕ → SyntaxFailure → Type 0
BeginsWithFirst source OutOfMemory = Unit {0}
BeginsWithFirst source (Faults v) = IfSome (first_of v.items) (IsFirstFault (cut 0 source))
