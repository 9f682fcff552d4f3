-- Two faults are equal exactly when they are of one kind and have the same spans, texts and words.
use Rattle.std.proofs.Common.{◌≡◌, true, false, IsTrue, refl, rules, ap, ◌∙◌}
use Rattle.std.proofs.lemmas.Bool.{false≢true}
use Rattle.protox_fault.specs.Faults.{IsSame, settled}
use Rattle.protox_fault.specs.contracts.error.ParseErrorKindPartialEq.TheImpl.{ghosts}
use Rattle.protox_fault.specs.declared.error.ParseErrorKind.{ParseErrorKind}
use Rattle.protox_fault.specs.declared.error.ParseErrorKind.TheVariants.{InvalidToken, IntegerOutOfRange, InvalidStringCharacters, UnterminatedString, InvalidStringEscape, InvalidUtf8String, NestedBlockComment, UnknownSyntax, InvalidIdentifier, InvalidGroupName, InvalidImport, DuplicatePackage, NoSpaceBetweenIntAndIdent, HashCommentOutsideTextFormat, FloatSuffixOutsideTextFormat, UnexpectedToken, UnexpectedEof, NegativeIdentOutsideDefault, InvalidMessageNumber, InvalidEnumNumber, InvalidDefault, Proto3DefaultValue, InvalidExtendFieldKind, RequiredExtendField, MapFieldWithLabel, OneofFieldWithLabel, Proto2FieldMissingLabel, Proto3GroupField, Proto3RequiredField, InvalidOneofFieldKind, InvalidMapFieldKeyType, ValueInvalidType, IntegerValueOutOfRange, EmptyOneof, MessageNestingTooDeep, FileTooLarge}

pub same-of-equal : (a b : ParseErrorKind) → IsTrue (ghosts.eq a b) → IsSame a b
same-of-equal (InvalidToken span) (InvalidToken span') h = search rules
same-of-equal (InvalidToken span) _ h = absurd (false≢true h)
same-of-equal (IntegerOutOfRange span) (IntegerOutOfRange span') h = search rules
same-of-equal (IntegerOutOfRange span) _ h = absurd (false≢true h)
same-of-equal (InvalidStringCharacters span) (InvalidStringCharacters span') h = search rules
same-of-equal (InvalidStringCharacters span) _ h = absurd (false≢true h)
same-of-equal (UnterminatedString span) (UnterminatedString span') h = search rules
same-of-equal (UnterminatedString span) _ h = absurd (false≢true h)
same-of-equal (InvalidStringEscape span) (InvalidStringEscape span') h = search rules
same-of-equal (InvalidStringEscape span) _ h = absurd (false≢true h)
same-of-equal (InvalidUtf8String span) (InvalidUtf8String span') h = search rules
same-of-equal (InvalidUtf8String span) _ h = absurd (false≢true h)
same-of-equal (NestedBlockComment span) (NestedBlockComment span') h = search rules
same-of-equal (NestedBlockComment span) _ h = absurd (false≢true h)
same-of-equal (UnknownSyntax span syntax) (UnknownSyntax span' syntax') h = search rules
same-of-equal (UnknownSyntax span syntax) _ h = absurd (false≢true h)
same-of-equal (InvalidIdentifier span) (InvalidIdentifier span') h = search rules
same-of-equal (InvalidIdentifier span) _ h = absurd (false≢true h)
same-of-equal (InvalidGroupName span) (InvalidGroupName span') h = search rules
same-of-equal (InvalidGroupName span) _ h = absurd (false≢true h)
same-of-equal (InvalidImport span) (InvalidImport span') h = search rules
same-of-equal (InvalidImport span) _ h = absurd (false≢true h)
same-of-equal (DuplicatePackage first second) (DuplicatePackage first' second') h = search rules
same-of-equal (DuplicatePackage first second) _ h = absurd (false≢true h)
same-of-equal (NoSpaceBetweenIntAndIdent span) (NoSpaceBetweenIntAndIdent span') h = search rules
same-of-equal (NoSpaceBetweenIntAndIdent span) _ h = absurd (false≢true h)
same-of-equal (HashCommentOutsideTextFormat span) (HashCommentOutsideTextFormat span') h = search rules
same-of-equal (HashCommentOutsideTextFormat span) _ h = absurd (false≢true h)
same-of-equal (FloatSuffixOutsideTextFormat span) (FloatSuffixOutsideTextFormat span') h = search rules
same-of-equal (FloatSuffixOutsideTextFormat span) _ h = absurd (false≢true h)
same-of-equal (UnexpectedToken span expected found) (UnexpectedToken span' expected' found') h = search rules
same-of-equal (UnexpectedToken span expected found) _ h = absurd (false≢true h)
same-of-equal (UnexpectedEof expected) (UnexpectedEof expected') h = search rules
same-of-equal (UnexpectedEof expected) _ h = absurd (false≢true h)
same-of-equal (NegativeIdentOutsideDefault span) (NegativeIdentOutsideDefault span') h = search rules
same-of-equal (NegativeIdentOutsideDefault span) _ h = absurd (false≢true h)
same-of-equal (InvalidMessageNumber span) (InvalidMessageNumber span') h = search rules
same-of-equal (InvalidMessageNumber span) _ h = absurd (false≢true h)
same-of-equal (InvalidEnumNumber span) (InvalidEnumNumber span') h = search rules
same-of-equal (InvalidEnumNumber span) _ h = absurd (false≢true h)
same-of-equal (InvalidDefault span kind) (InvalidDefault span' kind') h = search rules
same-of-equal (InvalidDefault span kind) _ h = absurd (false≢true h)
same-of-equal (Proto3DefaultValue span) (Proto3DefaultValue span') h = search rules
same-of-equal (Proto3DefaultValue span) _ h = absurd (false≢true h)
same-of-equal (InvalidExtendFieldKind span kind) (InvalidExtendFieldKind span' kind') h = search rules
same-of-equal (InvalidExtendFieldKind span kind) _ h = absurd (false≢true h)
same-of-equal (RequiredExtendField span) (RequiredExtendField span') h = search rules
same-of-equal (RequiredExtendField span) _ h = absurd (false≢true h)
same-of-equal (MapFieldWithLabel span) (MapFieldWithLabel span') h = search rules
same-of-equal (MapFieldWithLabel span) _ h = absurd (false≢true h)
same-of-equal (OneofFieldWithLabel span) (OneofFieldWithLabel span') h = search rules
same-of-equal (OneofFieldWithLabel span) _ h = absurd (false≢true h)
same-of-equal (Proto2FieldMissingLabel span) (Proto2FieldMissingLabel span') h = search rules
same-of-equal (Proto2FieldMissingLabel span) _ h = absurd (false≢true h)
same-of-equal (Proto3GroupField span) (Proto3GroupField span') h = search rules
same-of-equal (Proto3GroupField span) _ h = absurd (false≢true h)
same-of-equal (Proto3RequiredField span) (Proto3RequiredField span') h = search rules
same-of-equal (Proto3RequiredField span) _ h = absurd (false≢true h)
same-of-equal (InvalidOneofFieldKind span kind) (InvalidOneofFieldKind span' kind') h = search rules
same-of-equal (InvalidOneofFieldKind span kind) _ h = absurd (false≢true h)
same-of-equal (InvalidMapFieldKeyType span) (InvalidMapFieldKeyType span') h = search rules
same-of-equal (InvalidMapFieldKeyType span) _ h = absurd (false≢true h)
same-of-equal (ValueInvalidType span expected actual) (ValueInvalidType span' expected' actual') h = search rules
same-of-equal (ValueInvalidType span expected actual) _ h = absurd (false≢true h)
same-of-equal (IntegerValueOutOfRange span expected actual min max) (IntegerValueOutOfRange span' expected' actual' min' max') h = search rules
same-of-equal (IntegerValueOutOfRange span expected actual min max) _ h = absurd (false≢true h)
same-of-equal (EmptyOneof span) (EmptyOneof span') h = search rules
same-of-equal (EmptyOneof span) _ h = absurd (false≢true h)
same-of-equal (MessageNestingTooDeep span) (MessageNestingTooDeep span') h = search rules
same-of-equal (MessageNestingTooDeep span) _ h = absurd (false≢true h)
same-of-equal FileTooLarge FileTooLarge h = refl
same-of-equal FileTooLarge _ h = absurd (false≢true h)

settled-equal : (a : ParseErrorKind) → IsTrue (ghosts.eq (settled a) a)
settled-equal (InvalidToken span) = search rules
settled-equal (IntegerOutOfRange span) = search rules
settled-equal (InvalidStringCharacters span) = search rules
settled-equal (UnterminatedString span) = search rules
settled-equal (InvalidStringEscape span) = search rules
settled-equal (InvalidUtf8String span) = search rules
settled-equal (NestedBlockComment span) = search rules
settled-equal (UnknownSyntax span syntax) = search rules
settled-equal (InvalidIdentifier span) = search rules
settled-equal (InvalidGroupName span) = search rules
settled-equal (InvalidImport span) = search rules
settled-equal (DuplicatePackage first second) = search rules
settled-equal (NoSpaceBetweenIntAndIdent span) = search rules
settled-equal (HashCommentOutsideTextFormat span) = search rules
settled-equal (FloatSuffixOutsideTextFormat span) = search rules
settled-equal (UnexpectedToken span expected found) = search rules
settled-equal (UnexpectedEof expected) = search rules
settled-equal (NegativeIdentOutsideDefault span) = search rules
settled-equal (InvalidMessageNumber span) = search rules
settled-equal (InvalidEnumNumber span) = search rules
settled-equal (InvalidDefault span kind) = search rules
settled-equal (Proto3DefaultValue span) = search rules
settled-equal (InvalidExtendFieldKind span kind) = search rules
settled-equal (RequiredExtendField span) = search rules
settled-equal (MapFieldWithLabel span) = search rules
settled-equal (OneofFieldWithLabel span) = search rules
settled-equal (Proto2FieldMissingLabel span) = search rules
settled-equal (Proto3GroupField span) = search rules
settled-equal (Proto3RequiredField span) = search rules
settled-equal (InvalidOneofFieldKind span kind) = search rules
settled-equal (InvalidMapFieldKeyType span) = search rules
settled-equal (ValueInvalidType span expected actual) = search rules
settled-equal (IntegerValueOutOfRange span expected actual min max) = search rules
settled-equal (EmptyOneof span) = search rules
settled-equal (MessageNestingTooDeep span) = search rules
settled-equal FileTooLarge = refl

-- The place of a word in memory is not compared.
left : (a b : ParseErrorKind) → ghosts.eq a b ≡ ghosts.eq (settled a) b
left (InvalidDefault span kind) b = refl
left (InvalidExtendFieldKind span kind) b = refl
left (InvalidOneofFieldKind span kind) b = refl
left a b = refl

pub equal-of-same : (a b : ParseErrorKind) → IsSame a b → IsTrue (ghosts.eq a b)
equal-of-same a b h = left a b ∙ ap (λ x. ghosts.eq x b) h ∙ settled-equal b
