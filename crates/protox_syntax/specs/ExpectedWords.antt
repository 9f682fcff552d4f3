-- What the words `expected ..` of the first fault promise.
use Rattle.std.specs.Prelude.{◌≡◌, ℕ, suc, false, true, List, [], ◌∷◌, ◌++◌, length, take, IfSome}
use Rattle.protox_fault.specs.declared.error.ParseErrorKind.{ParseErrorKind}
use Rattle.protox_fault.specs.declared.error.ParseErrorKind.TheVariants as fault
use Rattle.protox_fault.specs.declared.error.SyntaxFailure.{SyntaxFailure}
use Rattle.protox_fault.specs.declared.error.SyntaxFailure.TheVariants.{Faults, OutOfMemory}
use Rattle.protox_lexeme.specs.Lexemes.{Lexeme, cut}
use Rattle.protox_lexeme.specs.Shapes.{Shape}
use Rattle.protox_lexeme.specs.Table.{rows_of}
use Rattle.protox_lexeme.specs.TokenClass.{class}
use Rattle.protox_ast.specs.Basics.{first_of}
use Rattle.protox_ast.specs.Spells.{BeginsFile, IsUnexpected, shapes}
use Rattle.protox_ast.specs.Truth.{is_terminator, source_row}
use Rattle.protox_rows.specs.Expected.{allowed, named, words_of}
use Rattle.protox_rows.specs.declared.expected.Expected.{Expected}

-- Behind the first n tokens some file goes on with this one.
abbrev pub GoesOnWith : List Shape → ℕ → Shape → Type 0
GoesOnWith tokens n token = BeginsFile (take n tokens ++ token ∷ []) (suc n)

-- The words are true behind the first n tokens. Some file goes on with each token that they name,
-- and none goes on with a token that they don't allow.
pub record AreTrueBehind (tokens : List Shape) (n : ℕ) (words : List ℕ) : Type 0 where
  pub expected : Expected
  pub are_its_words : words ≡ words_of expected
  pub named_go_on : (token : Shape) → named expected (class token) ≡ true → GoesOnWith tokens n token
  pub others_dont : (token : Shape) → allowed expected (class token) ≡ false → GoesOnWith tokens n token → ⊥

-- The words of an unexpected token are true behind the tokens before it; those at the end of the
-- source, behind all tokens.
abbrev pub HasTrueWords : List Lexeme → ParseErrorKind → Type 0
HasTrueWords lexemes (fault.UnexpectedToken span words found) =
    (n : ℕ) × IsUnexpected (shapes (rows_of lexemes)) n × (span ≡ (source_row (rows_of lexemes) n).at) × AreTrueBehind (shapes (rows_of lexemes)) n words
HasTrueWords lexemes (fault.UnexpectedEof words) = is_terminator words ≡ false → AreTrueBehind (shapes (rows_of lexemes)) (length (rows_of lexemes)) words
HasTrueWords lexemes _ = Unit {0}

-- The words of the first fault are true, if it has some; or memory ran out.
abbrev pub ExpectsTruly : List ℕ → SyntaxFailure → Type 0
ExpectsTruly source OutOfMemory = Unit {0}
ExpectsTruly source (Faults v) = IfSome (first_of v.items) (HasTrueWords (cut 0 source))
