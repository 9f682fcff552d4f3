-- How the bytes of a string are written between quotes.
use Rattle.std.specs.Prelude.{ℕ, ◌/◌, ◌%◌, ◌==◌, if◌then◌else◌, List, [], ◌∷◌, codes}
use Rattle.std.specs.Char.{digit_char}
use Rattle.std.specs.Int.{is_in_range}

-- A byte as three octal digits.
abbrev pub octal : ℕ → List ℕ
octal byte = digit_char (byte / 64) ∷ digit_char (byte / 8 % 8) ∷ digit_char (byte % 8) ∷ []

-- A byte of a string as it is written. Quotes, backslashes and bytes outside printable ASCII become
-- escapes; all others stay.
abbrev pub printed_byte : ℕ → List ℕ
printed_byte byte =
    if byte == 9 then codes "\\t"
    else if byte == 13 then codes "\\r"
    else if byte == 10 then codes "\\n"
    else if byte == 92 then codes "\\\\"
    else if byte == 39 then codes "\\'"
    else if byte == 34 then codes "\\\""
    else if is_in_range 32 126 byte then byte ∷ []
    else 92 ∷ octal byte
