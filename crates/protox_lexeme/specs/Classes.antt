-- The sets of bytes that the code looks for.
use Rattle.std.specs.Prelude.{ℕ, Bool}
use Rattle.std.specs.Char.{is_ascii_alphabetic, is_ascii_digit, is_ascii_hexdigit}
use Rattle.protox_lexeme.specs.declared.bytes.Class.{Class}
use Rattle.protox_lexeme.specs.declared.bytes.Class.TheVariants.{Blank, Letter, Alphabetic, Word, Digit, Octal, Hex, E, Sign, F, X, Quote, Mark, NotNewline, Plain}
use Rattle.protox_lexeme.specs.Strings.{is_plain}
use Rattle.protox_lexeme.specs.Lexicon.{is_blank, is_letter, is_word, is_octal, is_e, is_sign, is_f, is_x, is_quote, is_mark, is_not_newline}

-- Whether a byte is in the set of that name.
abbrev pub class_test : Class → ℕ → Bool
class_test Blank = is_blank
class_test Letter = is_letter
class_test Alphabetic = is_ascii_alphabetic
class_test Word = is_word
class_test Digit = is_ascii_digit
class_test Octal = is_octal
class_test Hex = is_ascii_hexdigit
class_test E = is_e
class_test Sign = is_sign
class_test F = is_f
class_test X = is_x
class_test Quote = is_quote
class_test Mark = is_mark
class_test NotNewline = is_not_newline
class_test Plain = is_plain
