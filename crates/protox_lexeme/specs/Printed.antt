-- How tokens print.
use Rattle.std.specs.Prelude.{ℕ, ◌/◌, ◌%◌, ◌==◌, if◌then◌else◌, List, [], ◌∷◌, ◌++◌, flat_map, codes}
use Rattle.std.specs.Char.{digit_char}
use Rattle.std.specs.Fmt.{decimal}
use Rattle.std.specs.Int.{is_in_range}
use Rattle.protox_lexeme.specs.declared.token.Token.{Token}
use Rattle.protox_lexeme.specs.declared.token.Token.TheVariants as token
use Rattle.protox_lexeme.specs.Shapes.{Shape, Ident, Int, Float, Str, Mark, LineComment, BlockComment, Newline, Invalid}

-- A byte as two hexadecimal digits, in small letters.
abbrev pub hex_pair : ℕ → List ℕ
hex_pair b = digit_char (b / 16) ∷ digit_char (b % 16) ∷ []

-- A byte of a string as it is printed. Quotes, backslashes and bytes outside printable ASCII become
-- escapes.
abbrev pub printed_byte : ℕ → List ℕ
printed_byte b =
    if b == 9 then codes "\\t"
    else if b == 13 then codes "\\r"
    else if b == 10 then codes "\\n"
    else if b == 39 then codes "\\'"
    else if b == 34 then codes "\\\""
    else if b == 92 then codes "\\\\"
    else if is_in_range 32 126 b then b ∷ []
    else 92 ∷ 120 ∷ hex_pair b

-- A token as it is printed. A line comment begins with `//`, and a string stands in double quotes.
abbrev pub printed : Shape → List ℕ
printed (Ident s) = s
printed (Int n) = decimal n
printed (Float s) = s
printed (Str s) = 34 ∷ flat_map printed_byte s ++ 34 ∷ []
printed (Mark b) = b ∷ []
printed (LineComment s) = codes "//" ++ s ++ 10 ∷ []
printed (BlockComment s) = codes "/*" ++ s ++ codes "*/"
printed Newline = 10 ∷ []
printed Invalid = []

-- The token has no value: it is a mark or a newline.
abbrev pub HasNoValue : Token → Type 0
HasNoValue (token.Ident s) = ⊥
HasNoValue (token.IntLiteral n) = ⊥
HasNoValue (token.FloatLiteral f) = ⊥
HasNoValue (token.StringLiteral s) = ⊥
HasNoValue (token.LineComment s) = ⊥
HasNoValue (token.BlockComment s) = ⊥
HasNoValue _ = Unit {0}
