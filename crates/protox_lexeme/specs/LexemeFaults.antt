-- What contracts see of a fault as the lexer keeps it.
use Rattle.std.specs.Prelude.{codes}
use Rattle.protox_fault.specs.declared.error.ParseErrorKind.{ParseErrorKind}
use Rattle.protox_fault.specs.declared.error.ParseErrorKind.TheVariants.{InvalidToken, IntegerOutOfRange, InvalidStringCharacters, UnterminatedString, InvalidStringEscape, NestedBlockComment, NoSpaceBetweenIntAndIdent, HashCommentOutsideTextFormat, FloatSuffixOutsideTextFormat, UnexpectedEof}
use Rattle.protox_lexeme.specs.declared.lexeme_fault.FaultKind.{FaultKind}
use Rattle.protox_lexeme.specs.declared.lexeme_fault.FaultKind.TheVariants as kind
use Rattle.protox_lexeme.specs.declared.lexeme_fault.LexemeFault.TheInside.{Inside}
use Rattle.protox_fault.specs.Faults.{Span}

-- The fault of a kind at a place. A source that ends too soon has a fault without a place.
abbrev pub fault_of : FaultKind → Span → ParseErrorKind
fault_of kind.InvalidToken span = InvalidToken span
fault_of kind.IntegerOutOfRange span = IntegerOutOfRange span
fault_of kind.InvalidStringCharacters span = InvalidStringCharacters span
fault_of kind.UnterminatedString span = UnterminatedString span
fault_of kind.InvalidStringEscape span = InvalidStringEscape span
fault_of kind.NestedBlockComment span = NestedBlockComment span
fault_of kind.NoSpaceBetweenIntAndIdent span = NoSpaceBetweenIntAndIdent span
fault_of kind.HashCommentOutsideTextFormat span = HashCommentOutsideTextFormat span
fault_of kind.FloatSuffixOutsideTextFormat span = FloatSuffixOutsideTextFormat span
fault_of kind.EndInString span = UnexpectedEof (codes "string terminator")
fault_of kind.EndInComment span = UnexpectedEof (codes "comment terminator")

-- The fault as it is reported.
abbrev pub fault_seen : Inside → ParseErrorKind
fault_seen f = fault_of f.kind f.span
