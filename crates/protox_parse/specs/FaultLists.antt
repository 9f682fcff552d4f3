-- The promises about all faults of a refusal.
use Rattle.std.specs.Prelude.{◌≡◌, ◌≤◌, ℕ, List, IfSome}
use Rattle.protox_fault.specs.declared.error.SyntaxFailure.{SyntaxFailure}
use Rattle.protox_fault.specs.declared.error.SyntaxFailure.TheVariants as failure
use Rattle.protox_lexeme.specs.Lexemes.{cut}
use Rattle.protox_lexeme.specs.Table.{table_of}
use Rattle.protox_ast.specs.Accepted.{Fits, IsAccepted}
use Rattle.protox_ast.specs.Basics.{first_of}
use Rattle.protox_ast.specs.Checks.{NothingWrong}
use Rattle.protox_ast.specs.FaultList.{AreFaultsOf, StandIn}
use Rattle.protox_ast.specs.Fronts.{AreClean}
use Rattle.protox_ast.specs.Nodes.{depth}
use Rattle.protox_ast.specs.Places.{Place, placed}
use Rattle.protox_ast.specs.Spells.{Spells}
use Rattle.protox_ast.specs.Tree as t
use Rattle.protox_ast.specs.declared.ast.File.{File}
use Rattle.protox_checks.specs.Checks.{AreListed}
use Rattle.protox_checks.specs.Faults.{HasEachWrong}
use Rattle.protox_parse.specs.declared.failure.ParseFailure.{ParseFailure}
use Rattle.protox_parse.specs.declared.failure.ParseFailure.TheVariants.{Refused, OutOfMemory}
use Rattle.protox_syntax.specs.AllFaults.{AreAllFaults}
use Rattle.protox_syntax.specs.ExpectedWords.{HasTrueWords}
use Rattle.protox_syntax.specs.LexicalFaults.{AreTokens}
use Rattle.protox_syntax.specs.LostChecks.{NoneIsLost}

-- The refusal lists exactly the faults of the parser's or the generator's failure; or memory ran
-- out.
abbrev pub HasFaultsOf : SyntaxFailure → ParseFailure → Type 0
HasFaultsOf wrong OutOfMemory = Unit {0}
HasFaultsOf (failure.Faults v) (Refused e) = e.errors ≡ v.items
HasFaultsOf failure.OutOfMemory (Refused e) = ⊥

-- Each fault of a lexeme and each unexpected token stands somewhere in the source. No fault of a
-- lexeme is listed twice.
abbrev pub AreStanding : List ℕ → ParseFailure → Type 0
AreStanding source OutOfMemory = Unit {0}
AreStanding source (Refused e) = StandIn (cut 0 source) e.errors

-- If only lexemes are at fault, exactly their faults are reported, in their order. This needs that
-- the source is within the length limit, that no character is invalid, and that the tokens spell a
-- tree of at most 31 levels that passes each check made while reading.
abbrev pub AreLexicalAlone : List ℕ → ParseFailure → Type 0
AreLexicalAlone source OutOfMemory = Unit {0}
AreLexicalAlone source (Refused e) =
    Fits source → (f : t.File Place) → Spells (placed (table_of (cut 0 source))) f → depth f ≤ 31 → NothingWrong f → AreTokens (cut 0 source) → (AreClean (cut 0 source) → ⊥)
    → AreFaultsOf (cut 0 source) e.errors

-- If the source is within the length limit and the parser accepts no tree of it, the list has all
-- its faults, in their order. Only the words of what was expected may differ.
abbrev pub AreAllFound : List ℕ → ParseFailure → Type 0
AreAllFound source OutOfMemory = Unit {0}
AreAllFound source (Refused e) = Fits source → ((f : t.File Place) → IsAccepted source f → ⊥) → AreAllFaults source e.errors

-- If the source is within the length limit and the parser accepts no tree of it, no check made
-- while reading is lost; or memory ran out.
abbrev pub NoCheckIsLost : List ℕ → ParseFailure → Type 0
NoCheckIsLost source OutOfMemory = Unit {0}
NoCheckIsLost source (Refused e) = Fits source → ((f : t.File Place) → IsAccepted source f → ⊥) → NoneIsLost (cut 0 source) e.errors

-- If the source is within the length limit and the parser accepts no tree of it, the words of the
-- first fault are true, if it has some; or memory ran out.
abbrev pub ExpectsTruly : List ℕ → ParseFailure → Type 0
ExpectsTruly source OutOfMemory = Unit {0}
ExpectsTruly source (Refused e) = Fits source → ((f : t.File Place) → IsAccepted source f → ⊥) → IfSome (first_of e.errors) (HasTrueWords (cut 0 source))

-- The list has each fault of the syntax tree; or memory ran out.
abbrev pub HasAllOf : File → ParseFailure → Type 0
HasAllOf file OutOfMemory = Unit {0}
HasAllOf file (Refused e) = HasEachWrong file e.errors

-- The list is in the order in which the generator finds the faults of the syntax tree; or memory
-- ran out.
abbrev pub AreListedOf : File → ParseFailure → Type 0
AreListedOf file OutOfMemory = Unit {0}
AreListedOf file (Refused e) = AreListed file e.errors
