-- The laws of the grammar as laws about faults. Where the reader stops, the fault there is true of
-- the source. No such fault is true of tokens that spell a file.
use Rattle.std.specs.Prelude.{◌≡◌, ℕ, suc, true, false, List, ◌∷◌, ◌++◌, length, Err}
use Rattle.protox_fault.specs.Faults.{Span}
use Rattle.protox_lexeme.specs.Lexemes.{Lexeme}
use Rattle.protox_lexeme.specs.Printed.{printed}
use Rattle.protox_lexeme.specs.Shapes.{Row, Rows}
use Rattle.protox_lexeme.specs.Table.{rows_of}
use Rattle.protox_fault.specs.declared.error.ParseErrorKind.TheVariants.{UnexpectedToken, UnexpectedEof}
use Rattle.protox_ast.specs.Keywords.{is_significant}
use Rattle.protox_ast.specs.Spells.{Spells}
use Rattle.protox_ast.specs.Tree.{File}
use Rattle.protox_ast.specs.Truth.{IsTrueOf, is_terminator}
use Rattle.protox_grammar.specs.Reader.{Unexpected}
use Rattle.protox_grammar.specs.Reads.{read}

-- If reading stops at a token, it is true that this token is unexpected, whatever text says what
-- was expected.
abbrev pub StopIsTrue : Type 0
StopIsTrue = (lexemes : List Lexeme) (n : ℕ) (front rest : Rows Span) (here : Row Span) (expected : List ℕ)
    → rows_of lexemes ≡ front ++ (here ∷ rest)
    → read n (rows_of lexemes) ≡ Err (Unexpected (suc (length rest)))
    → is_significant here.shape ≡ true
    → IsTrueOf lexemes (UnexpectedToken here.at expected (printed here.shape))

-- If reading stops at the end, it is true that the source ends too soon.
abbrev pub EndIsTrue : Type 0
EndIsTrue = (lexemes : List Lexeme) (n : ℕ) (expected : List ℕ)
    → read n (rows_of lexemes) ≡ Err (Unexpected 0)
    → is_terminator expected ≡ false
    → IsTrueOf lexemes (UnexpectedEof expected)

-- If the tokens spell a file, none of them is unexpected.
abbrev pub NoneIsUnexpected : Type 0
NoneIsUnexpected = (lexemes : List Lexeme) (f : File Span) (span : Span) (expected found : List ℕ)
    → Spells (rows_of lexemes) f
    → IsTrueOf lexemes (UnexpectedToken span expected found) → ⊥

-- If the tokens spell a file, they don't end too soon.
abbrev pub NoneIsEnded : Type 0
NoneIsEnded = (lexemes : List Lexeme) (f : File Span) (expected : List ℕ)
    → Spells (rows_of lexemes) f
    → is_terminator expected ≡ false
    → IsTrueOf lexemes (UnexpectedEof expected) → ⊥
