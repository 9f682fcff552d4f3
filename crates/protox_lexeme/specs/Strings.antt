-- String literals.
use Rattle.std.specs.Prelude.{ℕ, zero, suc, ◌+◌, Bool, true, false, not, ◌&&◌, ◌||◌, ◌==◌, nat_lt, nat_le, min, if◌then◌else◌, List, [], ◌∷◌, ◌++◌, length, take, drop, slice_index, flat_map, encode_utf8, codes, Option, Some, None}
use Rattle.std.specs.List.{prefix_len}
use Rattle.std.specs.Char.{is_ascii_hexdigit}
use Rattle.std.specs.Str.Parse.{digits_value}
use Rattle.protox_lexeme.specs.Lexicon.{is_octal, is_x, is_quote}
use Rattle.protox_fault.specs.declared.error.ParseErrorKind.{ParseErrorKind}
use Rattle.protox_fault.specs.declared.error.ParseErrorKind.TheVariants.{InvalidStringCharacters, InvalidStringEscape, UnterminatedString, UnexpectedEof}
use Rattle.protox_fault.specs.Faults.{span_from}

-- A run of plain bytes; another piece, with the bytes that it adds and its length; an invalid
-- piece, with whether it begins with a backslash and its length; the closing quote; a newline.
pub data Piece : Type 0 where
  run : List ℕ → Piece
  adds : List ℕ → ℕ → Piece
  wrong : Bool → ℕ → Piece
  ends : Piece
  breaks : Piece

-- Whether a byte is plain: no NUL, newline, backslash or quote.
abbrev pub is_plain : ℕ → Bool
is_plain b = not ((b == 0 || b == 10) || (b == 92 || is_quote b))

-- The byte that `\a`, `\b`, `\f`, `\n`, `\r`, `\t`, `\v`, `\?`, `\\`, `\'` or `\"` stands for,
-- given the letter.
abbrev pub simple_escape : ℕ → Option ℕ
simple_escape c =
    if c == 97 then Some 7
    else if c == 98 then Some 8
    else if c == 102 then Some 12
    else if c == 110 then Some 10
    else if c == 114 then Some 13
    else if c == 116 then Some 9
    else if c == 118 then Some 11
    else if c == 63 then Some 63
    else if c == 92 then Some 92
    else if c == 39 then Some 39
    else if c == 34 then Some 34
    else None

-- Whether the number is the code of a Unicode character and no surrogate.
abbrev pub is_scalar : ℕ → Bool
is_scalar c = nat_lt c 0xD800 || (nat_le 0xE000 c && nat_le c 0x10_FFFF)

-- The byte with that number, or an invalid piece.
abbrev pub byte_piece : ℕ → ℕ → Piece
byte_piece value n = if nat_le value 255 then adds (value ∷ []) n else wrong true n

-- The character with that number, or an invalid piece.
abbrev pub char_piece : ℕ → ℕ → Piece
char_piece value n = if is_scalar value then adds (encode_utf8 value) n else wrong true n

-- The piece of a backslash and a letter, or an invalid backslash.
abbrev pub simple_piece : Option ℕ → Piece
simple_piece None = wrong true 1
simple_piece (Some b) = adds (b ∷ []) 2

-- How many hexadecimal digits follow the first two bytes.
abbrev pub hex_len : List ℕ → ℕ
hex_len text = prefix_len is_ascii_hexdigit (drop 2 text)

-- How many octal digits follow the first byte.
abbrev pub octal_len : List ℕ → ℕ
octal_len text = prefix_len is_octal (drop 1 text)

-- `\x` and up to 2 hexadecimal digits.
unfoldable pub hex_escape : List ℕ → Piece
hex_escape text =
    if nat_lt 0 (hex_len text) then byte_piece (digits_value 16 (take (min 2 (hex_len text)) (drop 2 text))) (2 + min 2 (hex_len text)) else wrong true 1

-- A backslash and up to 3 octal digits.
unfoldable pub octal_escape : List ℕ → Piece
octal_escape text = byte_piece (digits_value 8 (take (min 3 (octal_len text)) (drop 1 text))) (1 + min 3 (octal_len text))

-- `\u` or `\U` and n hexadecimal digits.
unfoldable pub char_escape : ℕ → List ℕ → Piece
char_escape n text = if nat_le n (hex_len text) then char_piece (digits_value 16 (take n (drop 2 text))) (2 + n) else wrong true 1

-- The piece that begins with a backslash.
unfoldable pub escape : List ℕ → Piece
escape text =
    let c = slice_index text 1 in
    if is_x c then hex_escape text
    else if c == 117 then char_escape 4 text
    else if c == 85 then char_escape 8 text
    else if is_octal c then octal_escape text
    else simple_piece (simple_escape c)

-- The piece at the front of the text, in a literal with this quote.
unfoldable pub piece : ℕ → List ℕ → Piece
piece quote text =
    let b = slice_index text 0 in
    if is_plain b then run (take (prefix_len is_plain text) text)
    else if b == quote then ends
    else if is_quote b then adds (b ∷ []) 1
    else if b == 10 then breaks
    else if b == 92 then escape text
    else wrong false 1

-- The length of a piece in bytes.
abbrev pub piece_len : Piece → ℕ
piece_len (run bytes) = length bytes
piece_len (adds bytes n) = n
piece_len (wrong is_escape n) = n
piece_len ends = 1
piece_len breaks = 1

-- The bytes that the piece adds to the value.
abbrev pub added : Piece → List ℕ
added (run bytes) = bytes
added (adds bytes n) = bytes
added _ = []

-- Whether the piece ends the literal.
abbrev pub is_last : Piece → Bool
is_last ends = true
is_last breaks = true
is_last _ = false

-- The pieces of a literal, at most `count` of them.
unfoldable pub pieces_from : ℕ → ℕ → List ℕ → List Piece
pieces_from zero quote text = []
pieces_from (suc count) quote [] = []
pieces_from (suc count) quote (b ∷ text) =
    let p = piece quote (b ∷ text) in p ∷ (if is_last p then [] else pieces_from count quote (drop (piece_len p) (b ∷ text)))

-- The pieces of a literal, up to its closing quote, a newline or the end of the text.
unfoldable pub pieces : ℕ → List ℕ → List Piece
pieces quote text = pieces_from (length text) quote text

-- The value of a literal with these pieces.
abbrev pub value_of : List Piece → List ℕ
value_of ps = flat_map added ps

-- The length of the pieces in bytes.
abbrev pub len_of : List Piece → ℕ
len_of [] = 0
len_of (p ∷ ps) = piece_len p + len_of ps

-- Whether the value is a single run, or empty. `has_run` says that a run stands before these
-- pieces.
abbrev pub is_one_run : Bool → List Piece → Bool
is_one_run has_run [] = true
is_one_run has_run (run bytes ∷ ps) = not has_run && is_one_run true ps
is_one_run has_run (adds bytes n ∷ ps) = false
is_one_run has_run (p ∷ ps) = is_one_run has_run ps

-- A run of invalid pieces so far: whether the first begins with a backslash, and where it begins.
abbrev pub Bad : Type 0
Bad = Option (Bool × ℕ)

-- The run after one more invalid piece.
abbrev pub opened : Bad → Bool → ℕ → Bad
opened None is_escape at = Some (is_escape, at)
opened (Some o) is_escape at = Some o

-- The fault of a run of invalid pieces that ends at a place.
abbrev pub closed : Bad → ℕ → List ParseErrorKind
closed None at = []
closed (Some o) at = (if o.0 then InvalidStringEscape (span_from o.1 at) else InvalidStringCharacters (span_from o.1 at)) ∷ []

-- The faults of the pieces from a place on.
abbrev pub faults_of : Bad → ℕ → List Piece → List ParseErrorKind
faults_of bad at [] = closed bad at ++ UnexpectedEof (codes "string terminator") ∷ []
faults_of bad at (wrong is_escape n ∷ ps) = faults_of (opened bad is_escape at) (at + n) ps
faults_of bad at (ends ∷ ps) = closed bad at
faults_of bad at (breaks ∷ ps) = closed bad at ++ UnterminatedString (span_from at (at + 1)) ∷ []
faults_of bad at (p ∷ ps) = closed bad at ++ faults_of None (at + piece_len p) ps
