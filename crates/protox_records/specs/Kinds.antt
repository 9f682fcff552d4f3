-- The number of each kind of fault, from 1. A number keeps its kind from one version to the next.
use Rattle.std.specs.Prelude.{ℕ}
use Rattle.protox_fault.specs.declared.error.ParseErrorKind.{ParseErrorKind}
use Rattle.protox_fault.specs.declared.error.ParseErrorKind.TheVariants.{InvalidToken, IntegerOutOfRange, InvalidStringCharacters, UnterminatedString, InvalidStringEscape, InvalidUtf8String, NestedBlockComment, UnknownSyntax, InvalidIdentifier, InvalidGroupName, InvalidImport, DuplicatePackage, NoSpaceBetweenIntAndIdent, HashCommentOutsideTextFormat, FloatSuffixOutsideTextFormat, UnexpectedToken, UnexpectedEof, NegativeIdentOutsideDefault, InvalidMessageNumber, InvalidEnumNumber, InvalidDefault, Proto3DefaultValue, InvalidExtendFieldKind, RequiredExtendField, MapFieldWithLabel, OneofFieldWithLabel, Proto2FieldMissingLabel, Proto3GroupField, Proto3RequiredField, InvalidOneofFieldKind, InvalidMapFieldKeyType, ValueInvalidType, IntegerValueOutOfRange, EmptyOneof, MessageNestingTooDeep, FileTooLarge}

abbrev pub kind_of : ParseErrorKind → ℕ
kind_of (InvalidToken span) = 1
kind_of (IntegerOutOfRange span) = 2
kind_of (InvalidStringCharacters span) = 3
kind_of (UnterminatedString span) = 4
kind_of (InvalidStringEscape span) = 5
kind_of (InvalidUtf8String span) = 6
kind_of (NestedBlockComment span) = 7
kind_of (UnknownSyntax span syntax) = 8
kind_of (InvalidIdentifier span) = 9
kind_of (InvalidGroupName span) = 10
kind_of (InvalidImport span) = 11
kind_of (DuplicatePackage first second) = 12
kind_of (NoSpaceBetweenIntAndIdent span) = 13
kind_of (HashCommentOutsideTextFormat span) = 14
kind_of (FloatSuffixOutsideTextFormat span) = 15
kind_of (UnexpectedToken span expected found) = 16
kind_of (UnexpectedEof expected) = 17
kind_of (NegativeIdentOutsideDefault span) = 18
kind_of (InvalidMessageNumber span) = 19
kind_of (InvalidEnumNumber span) = 20
kind_of (InvalidDefault span kind) = 21
kind_of (Proto3DefaultValue span) = 22
kind_of (InvalidExtendFieldKind span kind) = 23
kind_of (RequiredExtendField span) = 24
kind_of (MapFieldWithLabel span) = 25
kind_of (OneofFieldWithLabel span) = 26
kind_of (Proto2FieldMissingLabel span) = 27
kind_of (Proto3GroupField span) = 28
kind_of (Proto3RequiredField span) = 29
kind_of (InvalidOneofFieldKind span kind) = 30
kind_of (InvalidMapFieldKeyType span) = 31
kind_of (ValueInvalidType span expected actual) = 32
kind_of (IntegerValueOutOfRange span expected actual min max) = 33
kind_of (EmptyOneof span) = 34
kind_of (MessageNestingTooDeep span) = 35
kind_of FileTooLarge = 36
