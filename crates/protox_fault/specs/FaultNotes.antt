-- What a fault says besides its text: labels at its places, and a hint.
use Rattle.std.specs.Prelude.{ℕ, List, [], ◌∷◌, ◌++◌, codes, Option, Some, None}
use Rattle.protox_fault.specs.declared.error.ParseErrorKind.{ParseErrorKind}
use Rattle.protox_fault.specs.declared.error.ParseErrorKind.TheVariants.{InvalidToken, IntegerOutOfRange, InvalidStringCharacters, UnterminatedString, UnknownSyntax, InvalidIdentifier, InvalidGroupName, InvalidImport, DuplicatePackage, NoSpaceBetweenIntAndIdent, HashCommentOutsideTextFormat, FloatSuffixOutsideTextFormat, UnexpectedToken, UnexpectedEof, NegativeIdentOutsideDefault, Proto2FieldMissingLabel, IntegerValueOutOfRange, MessageNestingTooDeep, FileTooLarge}
use Rattle.protox_fault.specs.Faults.{Span}

-- `…` in UTF-8
abbrev pub ellipsis : List ℕ
ellipsis = 0xE2 ∷ (0x80 ∷ (0xA6 ∷ []))

-- The label at the place of a fault, or at the first of two places. A fault without a place has
-- none.
abbrev pub label_of : ParseErrorKind → Option (List ℕ)
label_of (InvalidToken span) = Some (codes "found here")
label_of (IntegerOutOfRange span) = Some (codes "integer defined here")
label_of (InvalidStringCharacters span) = Some (codes "invalid characters")
label_of (UnterminatedString span) = Some (codes "line ends here")
label_of (DuplicatePackage first second) = Some (codes "defined here" ++ ellipsis)
label_of (NoSpaceBetweenIntAndIdent span) = Some (codes "found here")
label_of (HashCommentOutsideTextFormat span) = Some (codes "found here")
label_of (FloatSuffixOutsideTextFormat span) = Some (codes "found here")
label_of (UnexpectedToken span expected found) = Some (codes "found here")
label_of (UnexpectedEof expected) = None
label_of (NegativeIdentOutsideDefault span) = Some (codes "found here")
label_of (Proto2FieldMissingLabel span) = Some (codes "field defined here")
label_of FileTooLarge = None
label_of fault = Some (codes "defined here")

-- The second place of a fault and the label there, if it has a second place.
abbrev pub second_label_of : ParseErrorKind → Option (Span × List ℕ)
second_label_of (DuplicatePackage first second) = Some (second, ellipsis ++ codes "and again here")
second_label_of fault = None

-- A hint how to mend the fault, if there is one.
abbrev pub help_of : ParseErrorKind → Option (List ℕ)
help_of (UnknownSyntax span syntax) = Some (codes "possible values are 'proto2' and 'proto3'")
help_of (InvalidIdentifier span) = Some (codes "identifiers must consist of letters, numbers and underscores, and may not start with a number")
help_of (InvalidGroupName span) = Some (codes "group names must consist of a capital letter followed by letters, numbers and underscores")
help_of (InvalidImport span) = Some (codes "imports may not contain backslashes, repeated forward slashes, '.' or '..' components")
help_of (IntegerValueOutOfRange span expected actual min max) = Some (codes "the value must be between " ++ min ++ codes " and " ++ max ++ codes " inclusive")
help_of (MessageNestingTooDeep span) = Some (codes "messages and groups may be nested at most 31 levels deep")
help_of FileTooLarge = Some (codes "the maximum file length is 2,147,483,647 bytes")
help_of fault = None
