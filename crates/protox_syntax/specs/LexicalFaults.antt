-- The faults of a source whose only faults are lexical.
use Rattle.std.specs.Prelude.{◌≡◌, ◌≤◌, ℕ, List}
use Rattle.protox_fault.specs.declared.error.SyntaxFailure.{SyntaxFailure}
use Rattle.protox_fault.specs.declared.error.SyntaxFailure.TheVariants.{Faults, OutOfMemory}
use Rattle.protox_lexeme.specs.Lexemes.{Lexeme, cut}
use Rattle.protox_lexeme.specs.Shapes.{Invalid}
use Rattle.protox_lexeme.specs.Table.{table_of}
use Rattle.protox_ast.specs.Basics.{Each}
use Rattle.protox_ast.specs.Checks.{NothingWrong}
use Rattle.protox_ast.specs.FaultList.{AreFaultsOf}
use Rattle.protox_ast.specs.Nodes.{depth}
use Rattle.protox_ast.specs.Places.{Place, placed}
use Rattle.protox_ast.specs.Spells.{Spells}
use Rattle.protox_ast.specs.Tree as t

-- no character is invalid
abbrev pub AreTokens : List Lexeme → Type 0
AreTokens lexemes = Each (λ x. x.shape ≡ Invalid → ⊥) lexemes

-- If only lexemes are at fault, exactly their faults are reported, in their order. This needs that
-- no character is invalid, and that the tokens spell a tree of at most 31 levels that passes each
-- check made while reading.
abbrev pub AreLexicalAlone : List ℕ → SyntaxFailure → Type 0
AreLexicalAlone source OutOfMemory = Unit {0}
AreLexicalAlone source (Faults v) =
    (f : t.File Place) → Spells (placed (table_of (cut 0 source))) f → depth f ≤ 31 → NothingWrong f → AreTokens (cut 0 source) → AreFaultsOf (cut 0 source) v.items
