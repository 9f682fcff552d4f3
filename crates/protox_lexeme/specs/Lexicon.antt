-- The pattern of each kind of lexeme.
use Rattle.std.specs.Prelude.{◌≡◌, ℕ, ◌≤◌, Bool, not, ◌||◌, ◌==◌, List, slice_index, ◌⊎◌}
use Rattle.std.specs.Char.{is_ascii_alphabetic, is_ascii_alphanumeric, is_ascii_digit, is_ascii_hexdigit}
use Rattle.std.specs.Int.{is_in_range}
use Rattle.protox_lexeme.specs.declared.scan.Kind.{Kind}
use Rattle.protox_lexeme.specs.declared.scan.Kind.TheVariants.{Identifier, Integer, Float, String, Mark, LineComment, BlockComment, Newline}
use Rattle.protox_lexeme.specs.Pattern.{Pattern, one, many, ◌⋅◌, ◌∣◌, maybe, some}

-- [A-Za-z_]; then [A-Za-z0-9_]; [0-7]; [1-9]; [eE]; [+-]; [fF]; [xX]; ['"]
abbrev pub is_letter : ℕ → Bool
is_letter b = is_ascii_alphabetic b || b == 95

abbrev pub is_word : ℕ → Bool
is_word b = is_ascii_alphanumeric b || b == 95

abbrev pub is_octal : ℕ → Bool
is_octal b = is_in_range 48 55 b

abbrev pub is_nonzero : ℕ → Bool
is_nonzero b = is_in_range 49 57 b

abbrev pub is_e : ℕ → Bool
is_e b = b == 101 || b == 69

abbrev pub is_sign : ℕ → Bool
is_sign b = b == 43 || b == 45

abbrev pub is_f : ℕ → Bool
is_f b = b == 102 || b == 70

abbrev pub is_x : ℕ → Bool
is_x b = b == 120 || b == 88

abbrev pub is_quote : ℕ → Bool
is_quote b = b == 39 || b == 34

-- A mark: one of . - + ( ) { } [ ] < > , = : ; /
abbrev pub is_mark : ℕ → Bool
is_mark b = is_in_range 43 47 b || is_in_range 40 41 b || b == 123 || b == 125 || b == 91 || b == 93 || is_in_range 58 62 b

-- Bytes that are skipped between lexemes: tab, vertical tab, form feed, carriage return, space.
abbrev pub is_blank : ℕ → Bool
is_blank b = b == 32 || b == 9 || is_in_range 11 13 b

-- Any byte but a newline.
abbrev pub is_not_newline : ℕ → Bool
is_not_newline b = not (b == 10)

-- The pattern of one byte.
abbrev pub byte : ℕ → Pattern
byte b = one (λ x. x == b)

-- At least one decimal digit.
abbrev pub digits : Pattern
digits = some is_ascii_digit

-- Any number of decimal digits.
abbrev pub any_digits : Pattern
any_digits = many is_ascii_digit

-- An exponent: `e` or `E`, maybe a sign, and digits.
abbrev pub exponent : Pattern
exponent = one is_e ⋅ maybe (one is_sign) ⋅ digits

-- The `f` or `F` of a float, or nothing.
abbrev pub suffix : Pattern
suffix = maybe (one is_f)

-- The pattern of each kind. For a string and a block comment it is the opening alone; they go on up
-- to their own end.
abbrev pub pattern : Kind → Pattern
pattern Identifier = one is_letter ⋅ many is_word
pattern Integer =
    byte 48
    ∣ byte 48 ⋅ some is_octal
    ∣ one is_nonzero ⋅ any_digits
    ∣ byte 48 ⋅ one is_x ⋅ some is_ascii_hexdigit
pattern Float =
    byte 48 ⋅ one is_f
    ∣ one is_nonzero ⋅ any_digits ⋅ one is_f
    ∣ digits ⋅ byte 46 ⋅ any_digits ⋅ maybe exponent ⋅ suffix
    ∣ digits ⋅ exponent ⋅ suffix
    ∣ byte 46 ⋅ digits ⋅ maybe exponent ⋅ suffix
pattern String = one is_quote
pattern Mark = one is_mark
pattern LineComment = (byte 47 ⋅ byte 47 ∣ byte 35) ⋅ many is_not_newline ⋅ maybe (byte 10)
pattern BlockComment = byte 47 ⋅ byte 42
pattern Newline = byte 10

-- The first n bytes of the text begin with `#` or `//`.
abbrev pub IsLineOpener : List ℕ → ℕ → Type 0
IsLineOpener text n = ((slice_index text 0 ≡ 35) × (1 ≤ n)) ⊎ ((slice_index text 0 ≡ 47) × (slice_index text 1 ≡ 47) × (2 ≤ n))
