-- What contracts see of a fault.
use Rattle.std.specs.Prelude.{ℕ, ◌≡◌, ◌≤◌, Bool, true, false, not, if◌then◌else◌, List, filter, Option, Some, None, IfSome}
use Rattle.std.specs.Borrow.{Bor}
use Rattle.std.specs.declared.ops.Range.{Range}
use Rattle.protox_fault.specs.declared.error.ParseErrorKind.{ParseErrorKind}
use Rattle.protox_fault.specs.declared.error.ParseErrorKind.TheVariants.{InvalidToken, IntegerOutOfRange, InvalidStringCharacters, UnterminatedString, InvalidStringEscape, InvalidUtf8String, NestedBlockComment, UnknownSyntax, InvalidIdentifier, InvalidGroupName, InvalidImport, DuplicatePackage, NoSpaceBetweenIntAndIdent, HashCommentOutsideTextFormat, FloatSuffixOutsideTextFormat, UnexpectedToken, UnexpectedEof, NegativeIdentOutsideDefault, InvalidMessageNumber, InvalidEnumNumber, InvalidDefault, Proto3DefaultValue, InvalidExtendFieldKind, RequiredExtendField, MapFieldWithLabel, OneofFieldWithLabel, Proto2FieldMissingLabel, Proto3GroupField, Proto3RequiredField, InvalidOneofFieldKind, InvalidMapFieldKeyType, ValueInvalidType, IntegerValueOutOfRange, EmptyOneof, MessageNestingTooDeep, FileTooLarge}

-- A range of byte offsets: from the first byte to the one after the last.
abbrev pub Span : Type 0
Span = Range ℕ

-- The span with this start and this end.
abbrev pub span_from : ℕ → ℕ → Span
span_from start end = record { start = start; end = end }

-- The place of a fault. None for a fault of two places, at the end of the source, or of the whole
-- source.
abbrev pub span_of : ParseErrorKind → Option Span
span_of (InvalidToken span) = Some span
span_of (IntegerOutOfRange span) = Some span
span_of (InvalidStringCharacters span) = Some span
span_of (UnterminatedString span) = Some span
span_of (InvalidStringEscape span) = Some span
span_of (InvalidUtf8String span) = Some span
span_of (NestedBlockComment span) = Some span
span_of (UnknownSyntax span syntax) = Some span
span_of (InvalidIdentifier span) = Some span
span_of (InvalidGroupName span) = Some span
span_of (InvalidImport span) = Some span
span_of (DuplicatePackage first second) = None
span_of (NoSpaceBetweenIntAndIdent span) = Some span
span_of (HashCommentOutsideTextFormat span) = Some span
span_of (FloatSuffixOutsideTextFormat span) = Some span
span_of (UnexpectedToken span expected found) = Some span
span_of (UnexpectedEof expected) = None
span_of (NegativeIdentOutsideDefault span) = Some span
span_of (InvalidMessageNumber span) = Some span
span_of (InvalidEnumNumber span) = Some span
span_of (InvalidDefault span kind) = Some span
span_of (Proto3DefaultValue span) = Some span
span_of (InvalidExtendFieldKind span kind) = Some span
span_of (RequiredExtendField span) = Some span
span_of (MapFieldWithLabel span) = Some span
span_of (OneofFieldWithLabel span) = Some span
span_of (Proto2FieldMissingLabel span) = Some span
span_of (Proto3GroupField span) = Some span
span_of (Proto3RequiredField span) = Some span
span_of (InvalidOneofFieldKind span kind) = Some span
span_of (InvalidMapFieldKeyType span) = Some span
span_of (ValueInvalidType span expected actual) = Some span
span_of (IntegerValueOutOfRange span expected actual min max) = Some span
span_of (EmptyOneof span) = Some span
span_of (MessageNestingTooDeep span) = Some span
span_of FileTooLarge = None

-- A word that lies at one fixed place in memory.
abbrev pub placed : List ℕ → Bor (List ℕ)
placed word = record { ref_ptr = (0, 0); now = word }

-- The fault, with the word of its kind at that fixed place.
abbrev pub settled : ParseErrorKind → ParseErrorKind
settled (InvalidDefault span kind) = InvalidDefault span (placed kind.now)
settled (InvalidExtendFieldKind span kind) = InvalidExtendFieldKind span (placed kind.now)
settled (InvalidOneofFieldKind span kind) = InvalidOneofFieldKind span (placed kind.now)
settled wrong = wrong

-- Both are the same fault. Only the word of its kind may lie elsewhere in memory.
abbrev pub IsSame : ParseErrorKind → ParseErrorKind → Type 0
IsSame a b = settled a ≡ settled b

-- The span lies in a source of `size` bytes, and its start is not after its end.
abbrev pub SpanLiesIn : ℕ → Span → Type 0
SpanLiesIn size span = (span.start ≤ span.end) × (span.end ≤ size)

-- All spans of a fault lie in a source of `size` bytes. `FileTooLarge` is never a fault of such a
-- source.
abbrev pub LiesIn : ℕ → ParseErrorKind → Type 0
LiesIn size FileTooLarge = ⊥
LiesIn size (DuplicatePackage first second) = SpanLiesIn size first × SpanLiesIn size second
LiesIn size fault = IfSome (span_of fault) (SpanLiesIn size)

-- Whether the fault is one only outside aggregates: a `#` comment or a float suffix.
abbrev pub is_of_mode : ParseErrorKind → Bool
is_of_mode (FloatSuffixOutsideTextFormat span) = true
is_of_mode (HashCommentOutsideTextFormat span) = true
is_of_mode _ = false

-- Of the faults of lexemes, those that count. In text format a `#` comment and a float suffix
-- don't.
abbrev pub faults_in : Bool → List ParseErrorKind → List ParseErrorKind
faults_in text_format faults = if text_format then filter (λ fault. not (is_of_mode fault)) faults else faults
