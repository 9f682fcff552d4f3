-- Which fault is the first of a source. It is true of the source, and nothing is passed over before it:
-- the lexemes before it are clean, the tokens before it begin a file, and no node before it has a fault.
-- For each kind of fault. A law says that each is true, as Truth says it.
use Rattle.std.specs.Prelude.{◌≡◌, ◌<◌, ℕ, suc, true, false, ◌⊎◌, List, [], ◌∷◌, ◌++◌, length, Some}
use Rattle.protox_fault.specs.Faults.{Span}
use Rattle.protox_lexeme.specs.Lexemes.{Lexeme}
use Rattle.protox_lexeme.specs.Printed.{printed}
use Rattle.protox_lexeme.specs.Table.{is_gap, row_faults, rows_of}
use Rattle.protox_fault.specs.declared.error.ParseErrorKind.{ParseErrorKind}
use Rattle.protox_fault.specs.declared.error.ParseErrorKind.TheVariants as fault
use Rattle.protox_ast.specs.Basics.{first_of}
use Rattle.protox_ast.specs.Fronts.{AreClean, AreCleanBehind, Inside}
use Rattle.protox_ast.specs.Keywords.{is_significant}
use Rattle.protox_ast.specs.Spells.{BeginsFile, IsEnded, IsUnexpected, shapes}
use Rattle.protox_ast.specs.Truth.{IsWrongBehind, is_terminator, source_row}

-- No node that ends before token n - 1 has a fault. That is, no file that begins with fewer than n
-- tokens of the source has a wrong node at the end of these tokens.
abbrev pub NoneIsWrongBefore : List Lexeme → ℕ → Type 0
NoneIsWrongBefore lexemes n = (k : ℕ) (wrong : ParseErrorKind) → k < n → IsWrongBehind lexemes k wrong → ⊥

-- The fault is the first one of a lexeme. All lexemes before it are clean, and their tokens begin a
-- file. No node that ends before the last of these tokens has a fault.
pub record IsFirstOfLexemes (lexemes : List Lexeme) (wrong : ParseErrorKind) : Type 0 where
  pub before : List Lexeme
  pub here : Lexeme
  pub behind : List Lexeme
  pub parts : lexemes ≡ before ++ (here ∷ behind)
  pub is_first : first_of (row_faults here) ≡ Some wrong
  pub clean : AreCleanBehind lexemes 0 before
  pub begins : BeginsFile (shapes (rows_of lexemes)) (length (rows_of before))
  pub none_before : NoneIsWrongBefore lexemes (length (rows_of before))

-- The fault is the first of a lexeme, and no file goes on there inside an aggregate.
abbrev pub IsFirstOutsideAggregates : List Lexeme → ParseErrorKind → Type 0
IsFirstOutsideAggregates lexemes wrong = (first : IsFirstOfLexemes lexemes wrong) × (Inside lexemes (length (rows_of first.before)) → ⊥)

-- Token n and all lexemes before it are clean.
pub record AreCleanThrough (lexemes : List Lexeme) (n : ℕ) : Type 0 where
  pub before : List Lexeme
  pub here : Lexeme
  pub behind : List Lexeme
  pub parts : lexemes ≡ before ++ (here ∷ behind)
  pub is_token : is_gap here.shape ≡ false
  pub number : length (rows_of before) ≡ n
  pub clean : AreCleanBehind lexemes 0 (before ++ (here ∷ []))

-- A token with this span and this text is unexpected, and it is no invalid character. It and all lexemes
-- before it are clean, and no node before it has a fault.
pub record IsFirstUnexpected (lexemes : List Lexeme) (span : Span) (found : List ℕ) : Type 0 where
  pub number : ℕ
  pub unexpected : IsUnexpected (shapes (rows_of lexemes)) number
  pub significant : is_significant (source_row (rows_of lexemes) number).shape ≡ true
  pub place : span ≡ (source_row (rows_of lexemes) number).at
  pub text : found ≡ printed (source_row (rows_of lexemes) number).shape
  pub clean : AreCleanThrough lexemes number
  pub none_before : NoneIsWrongBefore lexemes (suc number)

-- The tokens end too soon: they begin a file and are none. All lexemes are clean, and no node has a
-- fault.
pub record IsFirstAtEnd (lexemes : List Lexeme) : Type 0 where
  pub ended : IsEnded (shapes (rows_of lexemes))
  pub clean : AreClean lexemes
  pub none_before : NoneIsWrongBefore lexemes (suc (length (rows_of lexemes)))

-- The fault is one of a node that ends with this token. The token and all lexemes before it are
-- clean, and no node before it has a fault.
pub record IsFirstOfNodes (lexemes : List Lexeme) (wrong : ParseErrorKind) : Type 0 where
  pub number : ℕ
  pub is_wrong : IsWrongBehind lexemes (suc number) wrong
  pub clean : AreCleanThrough lexemes number
  pub none_before : NoneIsWrongBefore lexemes (suc number)

-- The source ends too soon: in a string or a comment, or between tokens.
abbrev pub IsFirstEnd : List Lexeme → List ℕ → Type 0
IsFirstEnd lexemes expected =
    ((is_terminator expected ≡ true) × IsFirstOfLexemes lexemes (fault.UnexpectedEof expected))
    ⊎ ((is_terminator expected ≡ false) × IsFirstAtEnd lexemes)

-- The fault is the first of the source with these lexemes.
abbrev pub IsFirstFault : List Lexeme → ParseErrorKind → Type 0
IsFirstFault lexemes (fault.InvalidToken span) = IsFirstOfLexemes lexemes (fault.InvalidToken span)
IsFirstFault lexemes (fault.IntegerOutOfRange span) = IsFirstOfLexemes lexemes (fault.IntegerOutOfRange span)
IsFirstFault lexemes (fault.InvalidStringCharacters span) = IsFirstOfLexemes lexemes (fault.InvalidStringCharacters span)
IsFirstFault lexemes (fault.UnterminatedString span) = IsFirstOfLexemes lexemes (fault.UnterminatedString span)
IsFirstFault lexemes (fault.InvalidStringEscape span) = IsFirstOfLexemes lexemes (fault.InvalidStringEscape span)
IsFirstFault lexemes (fault.NestedBlockComment span) = IsFirstOfLexemes lexemes (fault.NestedBlockComment span)
IsFirstFault lexemes (fault.NoSpaceBetweenIntAndIdent span) = IsFirstOfLexemes lexemes (fault.NoSpaceBetweenIntAndIdent span)
IsFirstFault lexemes (fault.HashCommentOutsideTextFormat span) = IsFirstOutsideAggregates lexemes (fault.HashCommentOutsideTextFormat span)
IsFirstFault lexemes (fault.FloatSuffixOutsideTextFormat span) = IsFirstOutsideAggregates lexemes (fault.FloatSuffixOutsideTextFormat span)
IsFirstFault lexemes (fault.UnexpectedToken span expected found) = IsFirstUnexpected lexemes span found
IsFirstFault lexemes (fault.UnexpectedEof expected) = IsFirstEnd lexemes expected
IsFirstFault lexemes (fault.UnknownSyntax span value) = IsFirstOfNodes lexemes (fault.UnknownSyntax span value)
IsFirstFault lexemes (fault.InvalidUtf8String span) = IsFirstOfNodes lexemes (fault.InvalidUtf8String span)
IsFirstFault lexemes (fault.InvalidImport span) = IsFirstOfNodes lexemes (fault.InvalidImport span)
IsFirstFault lexemes (fault.InvalidIdentifier span) = IsFirstOfNodes lexemes (fault.InvalidIdentifier span)
IsFirstFault lexemes (fault.InvalidGroupName span) = IsFirstOfNodes lexemes (fault.InvalidGroupName span)
IsFirstFault lexemes (fault.DuplicatePackage first second) = IsFirstOfNodes lexemes (fault.DuplicatePackage first second)
IsFirstFault lexemes (fault.MessageNestingTooDeep span) = IsFirstOfNodes lexemes (fault.MessageNestingTooDeep span)
IsFirstFault lexemes _ = ⊥
