-- The texts of faults.
use Rattle.std.specs.Prelude.{ℕ, List, ◌++◌, codes}
use Rattle.protox_fault.specs.declared.error.ParseErrorKind.{ParseErrorKind}
use Rattle.protox_fault.specs.declared.error.ParseErrorKind.TheVariants.{InvalidToken, IntegerOutOfRange, InvalidStringCharacters, UnterminatedString, InvalidStringEscape, InvalidUtf8String, NestedBlockComment, UnknownSyntax, InvalidIdentifier, InvalidGroupName, InvalidImport, DuplicatePackage, NoSpaceBetweenIntAndIdent, HashCommentOutsideTextFormat, FloatSuffixOutsideTextFormat, UnexpectedToken, UnexpectedEof, NegativeIdentOutsideDefault, InvalidMessageNumber, InvalidEnumNumber, InvalidDefault, Proto3DefaultValue, InvalidExtendFieldKind, RequiredExtendField, MapFieldWithLabel, OneofFieldWithLabel, Proto2FieldMissingLabel, Proto3GroupField, Proto3RequiredField, InvalidOneofFieldKind, InvalidMapFieldKeyType, ValueInvalidType, IntegerValueOutOfRange, EmptyOneof, MessageNestingTooDeep, FileTooLarge}

-- The text of a fault, in one line.
abbrev pub text_of : ParseErrorKind → List ℕ
text_of (InvalidToken span) = codes "invalid token"
text_of (IntegerOutOfRange span) = codes "integer is too large"
text_of (InvalidStringCharacters span) = codes "invalid string character"
text_of (UnterminatedString span) = codes "unterminated string"
text_of (InvalidStringEscape span) = codes "invalid string escape"
text_of (InvalidUtf8String span) = codes "string is not valid utf-8"
text_of (NestedBlockComment span) = codes "nested block comments are not supported"
text_of (UnknownSyntax span syntax) = codes "unknown syntax '" ++ syntax ++ codes "'"
text_of (InvalidIdentifier span) = codes "invalid identifier"
text_of (InvalidGroupName span) = codes "invalid group name"
text_of (InvalidImport span) = codes "invalid import"
text_of (DuplicatePackage first second) = codes "multiple package names specified"
text_of (NoSpaceBetweenIntAndIdent span) = codes "whitespace is required between an integer literal and an identifier"
text_of (HashCommentOutsideTextFormat span) = codes "'#' comments are not allowed here"
text_of (FloatSuffixOutsideTextFormat span) = codes "'f' suffix for float literals is not allowed"
text_of (UnexpectedToken span expected found) = codes "expected " ++ expected ++ codes ", but found '" ++ found ++ codes "'"
text_of (UnexpectedEof expected) = codes "expected " ++ expected ++ codes ", but reached end of file"
text_of (NegativeIdentOutsideDefault span) = codes "identifiers may not be negative"
text_of (InvalidMessageNumber span) = codes "message numbers must be between 1 and 536870911"
text_of (InvalidEnumNumber span) = codes "enum numbers must be between -2147483648 and 2147483647"
text_of (InvalidDefault span kind) = kind.now ++ codes " fields may not have default values"
text_of (Proto3DefaultValue span) = codes "default values are not allowed in proto3"
text_of (InvalidExtendFieldKind span kind) = kind.now ++ codes " fields are not allowed in extensions"
text_of (RequiredExtendField span) = codes "extension fields may not be required"
text_of (MapFieldWithLabel span) = codes "map fields cannot have labels"
text_of (OneofFieldWithLabel span) = codes "oneof fields cannot have labels"
text_of (Proto2FieldMissingLabel span) = codes "fields must have a label with proto2 syntax (expected one of 'optional', 'repeated' or 'required')"
text_of (Proto3GroupField span) = codes "groups are not allowed in proto3 syntax"
text_of (Proto3RequiredField span) = codes "required fields are not allowed in proto3 syntax"
text_of (InvalidOneofFieldKind span kind) = kind.now ++ codes " fields are not allowed in a oneof"
text_of (InvalidMapFieldKeyType span) = codes "a map field key type must be an integer, boolean or string"
text_of (ValueInvalidType span expected actual) = codes "expected value to be " ++ expected ++ codes ", but found '" ++ actual ++ codes "'"
text_of (IntegerValueOutOfRange span expected actual min max) = codes "expected value to be " ++ expected ++ codes ", but the value " ++ actual ++ codes " is out of range"
text_of (EmptyOneof span) = codes "a oneof must have at least one field"
text_of (MessageNestingTooDeep span) = codes "reached maximum recursion limit for nested messages"
text_of FileTooLarge = codes "file is too large"

-- The text of the fault is always the same: it has no values in it.
abbrev pub HasFixedText : ParseErrorKind → Type 0
HasFixedText (UnknownSyntax span syntax) = ⊥
HasFixedText (UnexpectedToken span expected found) = ⊥
HasFixedText (UnexpectedEof expected) = ⊥
HasFixedText (InvalidDefault span kind) = ⊥
HasFixedText (InvalidExtendFieldKind span kind) = ⊥
HasFixedText (InvalidOneofFieldKind span kind) = ⊥
HasFixedText (ValueInvalidType span expected actual) = ⊥
HasFixedText (IntegerValueOutOfRange span expected actual min max) = ⊥
HasFixedText _ = Unit {0}
