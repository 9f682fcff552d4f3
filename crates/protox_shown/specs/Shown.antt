-- How text from a source is shown on a line of a terminal.
use Rattle.std.specs.Prelude.{ℕ, ◌||◌, Bool, false, if◌then◌else◌, nat_le, length, take, List, [], ◌∷◌, ◌++◌, flat_map, codes}
use Rattle.std.specs.Char.{encode_utf8, is_control}
use Rattle.std.specs.Fmt.{digits}
use Rattle.std.specs.Int.{is_in_range}
use Rattle.std.specs.Str.{chars}
use Rattle.protox_fault.specs.FaultTexts.{text_of}
use Rattle.protox_fault.specs.declared.error.ParseErrorKind.{ParseErrorKind}
use Rattle.protox_fault.specs.declared.error.ParseErrorKind.TheVariants.{UnknownSyntax, UnexpectedToken, ValueInvalidType}

-- Whether the character has Unicode's property Default_Ignorable_Code_Point, so that a terminal
-- shows nothing of it. These are marks of text direction, joiners and spaces without width,
-- fillers, variation selectors and tags. Here those up to U+2FFF, then the others.
abbrev pub is_low_ignorable : ℕ → Bool
is_low_ignorable c = is_in_range 0xAD 0xAD c || (is_in_range 0x34F 0x34F c || (is_in_range 0x61C 0x61C c || (is_in_range 0x115F 0x1160 c || (is_in_range 0x17B4 0x17B5 c || (is_in_range 0x180B 0x180F c || (is_in_range 0x200B 0x200F c || (is_in_range 0x202A 0x202E c || (is_in_range 0x2060 0x206F c))))))))

-- Whether a character above U+2FFF has that property.
abbrev pub is_high_ignorable : ℕ → Bool
is_high_ignorable c = is_in_range 0x3164 0x3164 c || (is_in_range 0xFE00 0xFE0F c || (is_in_range 0xFEFF 0xFEFF c || (is_in_range 0xFFA0 0xFFA0 c || (is_in_range 0xFFF0 0xFFF8 c || (is_in_range 0x1_BCA0 0x1_BCA3 c || (is_in_range 0x1_D173 0x1_D17A c || (is_in_range 0xE_0000 0xE_0FFF c)))))))

-- Whether the character is a separator of lines or paragraphs that is no control character.
abbrev pub is_separator : ℕ → Bool
is_separator c = is_in_range 0x2028 0x2029 c

-- Whether a terminal acts on the character or shows nothing of it.
abbrev pub is_hidden : ℕ → Bool
is_hidden c = is_control c || (is_separator c || (is_low_ignorable c || is_high_ignorable c))

-- The character as `\u{..}`, with its code in hexadecimal digits.
abbrev pub escaped : ℕ → List ℕ
escaped c = codes "\\u{" ++ (digits 16 false c ++ codes "}")

-- A character as it is shown: escaped if it is hidden, else as it is.
abbrev pub shown_char : ℕ → List ℕ
shown_char c = if is_hidden c then escaped c else encode_utf8 c

-- A text as it is shown.
abbrev pub shown : List ℕ → List ℕ
shown text = flat_map shown_char (chars text)

-- The first 200 characters, then `…` if there are more.
abbrev pub cut : List ℕ → List ℕ
cut cs = if nat_le (length cs) 200 then cs else take 200 cs ++ (0x2026 ∷ [])

-- A text as it is shown in brief: at most 200 of its characters.
abbrev pub shown_brief : List ℕ → List ℕ
shown_brief text = flat_map shown_char (cut (chars text))

-- The fault, with the text that it repeats from the source shown in brief.
abbrev pub in_brief : ParseErrorKind → ParseErrorKind
in_brief (UnknownSyntax span syntax) = UnknownSyntax span (shown_brief syntax)
in_brief (UnexpectedToken span expected found) = UnexpectedToken span expected (shown_brief found)
in_brief (ValueInvalidType span expected actual) = ValueInvalidType span expected (shown_brief actual)
in_brief fault = fault

-- The text of a fault as it is shown.
abbrev pub shown_fault : ParseErrorKind → List ℕ
shown_fault fault = text_of (in_brief fault)
