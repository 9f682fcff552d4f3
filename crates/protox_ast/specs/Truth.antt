-- When a fault is true of a source, for each kind of fault: of lexemes, of unexpected tokens, and
-- of nodes that are checked while a file is read. Faults of the generator are defined elsewhere.
use Rattle.std.specs.Prelude.{◌≡◌, ℕ, suc, Bool, true, false, ◌||◌, ◌⊎◌, List, ◌∷◌, ◌++◌, length, Some, Any, codes}
use Rattle.std.specs.Str.{bytes_eq}
use Rattle.protox_fault.specs.Faults.{Span, span_from}
use Rattle.protox_lexeme.specs.Lexemes.{Lexeme}
use Rattle.protox_lexeme.specs.Printed.{printed}
use Rattle.protox_lexeme.specs.Shapes.{Invalid, Row, Rows}
use Rattle.protox_lexeme.specs.Table.{rows_of}
use Rattle.protox_fault.specs.declared.error.ParseErrorKind.{ParseErrorKind}
use Rattle.protox_fault.specs.declared.error.ParseErrorKind.TheVariants as fault
use Rattle.protox_ast.specs.Basics.{first_of}
use Rattle.protox_ast.specs.CheckedNodes.{CheckedNode, ASyntax, AnImport, AReservedName, node_end, checked_nodes}
use Rattle.protox_ast.specs.Checks.{WrongCheckedNode}
use Rattle.protox_ast.specs.Fronts.{Inside}
use Rattle.protox_ast.specs.Keywords.{is_significant}
use Rattle.protox_ast.specs.Spells.{GoesOn, IsUnexpected, IsEnded, is_string, row_at, shapes}
use Rattle.protox_ast.specs.Tree as t

-- ---- lexemes

-- An invalid lexeme stands at this span.
abbrev pub IsInvalidThere : List Lexeme → Span → Type 0
IsInvalidThere lexemes span = Any (λ x. (x.shape ≡ Invalid) × (span ≡ span_from x.start x.stop)) lexemes

-- The fault is the first one of some lexeme.
abbrev pub IsFirstOfLexeme : List Lexeme → ParseErrorKind → Type 0
IsFirstOfLexeme lexemes wrong = Any (λ x. first_of x.faults ≡ Some wrong) lexemes

-- The fault is the first one of some lexeme, and that lexeme can't be inside an aggregate.
pub record IsFirstOutside (lexemes : List Lexeme) (wrong : ParseErrorKind) : Type 0 where
  pub before : List Lexeme
  pub here : Lexeme
  pub behind : List Lexeme
  pub parts : lexemes ≡ before ++ (here ∷ behind)
  pub is_first : first_of here.faults ≡ Some wrong
  pub outside : Inside lexemes (length (rows_of before)) → ⊥

-- ---- tokens

-- Row n of a source.
abbrev pub source_row : Rows Span → ℕ → Row Span
source_row = row_at (span_from 0 0)

-- A token with this span and this text is unexpected. An invalid lexeme is no token.
abbrev pub IsUnexpectedThere : List Lexeme → Span → List ℕ → Type 0
IsUnexpectedThere lexemes span text =
    (n : ℕ) × IsUnexpected (shapes (rows_of lexemes)) n
    × (span ≡ (source_row (rows_of lexemes) n).at) × (text ≡ printed (source_row (rows_of lexemes) n).shape) × (is_significant (source_row (rows_of lexemes) n).shape ≡ true)

-- Whether the text names the missing end of a string or a comment.
abbrev pub is_terminator : List ℕ → Bool
is_terminator expected = bytes_eq expected (codes "string terminator") || bytes_eq expected (codes "comment terminator")

-- A string or a comment lacks its end; or the tokens end too soon.
abbrev pub IsEndThere : List Lexeme → List ℕ → Type 0
IsEndThere lexemes expected =
    ((is_terminator expected ≡ true) × IsFirstOfLexeme lexemes (fault.UnexpectedEof expected))
    ⊎ ((is_terminator expected ≡ false) × IsEnded (shapes (rows_of lexemes)))

-- ---- nodes that are checked

-- The span of token n.
abbrev pub token_span : Rows Span → ℕ → Span
token_span rows n = (source_row rows n).at

-- Whether the node is a run of strings.
abbrev pub is_run : {M : Type 0} → CheckedNode M → Bool
is_run (ASyntax x) = true
is_run (AnImport x) = true
is_run (AReservedName x) = true
is_run _ = false

-- The node ends with token n - 1, and the fault is a fault of this node. If the node is a run of
-- strings, token n is no string, so that the run is whole.
abbrev pub IsWrongBefore : List Lexeme → ℕ → ParseErrorKind → CheckedNode ℕ → Type 0
IsWrongBefore lexemes n wrong node =
    (suc (node_end node) ≡ n) × (is_run node ≡ true → is_string (source_row (rows_of lexemes) n).shape ≡ false) × WrongCheckedNode (token_span (rows_of lexemes)) node wrong

-- Some file begins with the first n tokens and has a node that ends with the last of them. The
-- fault is a fault of that node.
abbrev pub IsWrongBehind : List Lexeme → ℕ → ParseErrorKind → Type 0
IsWrongBehind lexemes n wrong = (f : t.File ℕ) × GoesOn (shapes (rows_of lexemes)) n f × Any (IsWrongBefore lexemes n wrong) (checked_nodes f)

-- The fault is one of a node of some file that begins as the source does.
abbrev pub IsOfNode : List Lexeme → ParseErrorKind → Type 0
IsOfNode lexemes wrong = (n : ℕ) × IsWrongBehind lexemes n wrong

-- ---- by kinds

-- The fault is true of the source with these lexemes. Faults of other kinds are never true here.
abbrev pub IsTrueOf : List Lexeme → ParseErrorKind → Type 0
IsTrueOf lexemes (fault.InvalidToken span) = IsInvalidThere lexemes span
IsTrueOf lexemes (fault.IntegerOutOfRange span) = IsFirstOfLexeme lexemes (fault.IntegerOutOfRange span)
IsTrueOf lexemes (fault.InvalidStringCharacters span) = IsFirstOfLexeme lexemes (fault.InvalidStringCharacters span)
IsTrueOf lexemes (fault.UnterminatedString span) = IsFirstOfLexeme lexemes (fault.UnterminatedString span)
IsTrueOf lexemes (fault.InvalidStringEscape span) = IsFirstOfLexeme lexemes (fault.InvalidStringEscape span)
IsTrueOf lexemes (fault.NestedBlockComment span) = IsFirstOfLexeme lexemes (fault.NestedBlockComment span)
IsTrueOf lexemes (fault.NoSpaceBetweenIntAndIdent span) = IsFirstOfLexeme lexemes (fault.NoSpaceBetweenIntAndIdent span)
IsTrueOf lexemes (fault.HashCommentOutsideTextFormat span) = IsFirstOutside lexemes (fault.HashCommentOutsideTextFormat span)
IsTrueOf lexemes (fault.FloatSuffixOutsideTextFormat span) = IsFirstOutside lexemes (fault.FloatSuffixOutsideTextFormat span)
IsTrueOf lexemes (fault.UnexpectedToken span expected found) = IsUnexpectedThere lexemes span found
IsTrueOf lexemes (fault.UnexpectedEof expected) = IsEndThere lexemes expected
IsTrueOf lexemes (fault.UnknownSyntax span value) = IsOfNode lexemes (fault.UnknownSyntax span value)
IsTrueOf lexemes (fault.InvalidUtf8String span) = IsOfNode lexemes (fault.InvalidUtf8String span)
IsTrueOf lexemes (fault.InvalidImport span) = IsOfNode lexemes (fault.InvalidImport span)
IsTrueOf lexemes (fault.InvalidIdentifier span) = IsOfNode lexemes (fault.InvalidIdentifier span)
IsTrueOf lexemes (fault.InvalidGroupName span) = IsOfNode lexemes (fault.InvalidGroupName span)
IsTrueOf lexemes (fault.DuplicatePackage first second) = IsOfNode lexemes (fault.DuplicatePackage first second)
IsTrueOf lexemes (fault.MessageNestingTooDeep span) = IsOfNode lexemes (fault.MessageNestingTooDeep span)
IsTrueOf lexemes _ = ⊥
