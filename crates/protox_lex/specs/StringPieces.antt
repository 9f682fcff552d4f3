-- The pieces of a string literal, by a table of patterns.
use Rattle.std.specs.Prelude.{◌≡◌, ℕ, ◌<◌, Bool, true, false, not, ◌&&◌, ◌==◌, if◌then◌else◌, ◌⊎◌, List, [], ◌∷◌, length, take, drop, slice_index}
use Rattle.std.specs.Char.{is_ascii_hexdigit}
use Rattle.std.specs.Option.{is_some}
use Rattle.std.specs.Str.Parse.{digits_value}
use Rattle.protox_lexeme.specs.Lexicon.{is_octal, is_x, is_quote, byte}
use Rattle.protox_lexeme.specs.Pattern.{Pattern, one, ◌⋅◌, some, times, up_to, Fits, IsLongest}
use Rattle.protox_lexeme.specs.Strings.{Piece, run, adds, wrong, ends, breaks, is_plain, simple_escape, byte_piece, char_piece, simple_piece, piece_len, is_last}

-- A run of plain bytes; the quote that opened the literal; the other quote; and escapes: by
-- hexadecimal digits, by octal digits, by a letter, and of a character by 4 or 8 hexadecimal
-- digits.
pub data PieceKind : Type 0 where
  Run : PieceKind
  Close : PieceKind
  OtherQuote : PieceKind
  Hex : PieceKind
  Octal : PieceKind
  Simple : PieceKind
  ShortChar : PieceKind
  LongChar : PieceKind

-- Whether a backslash may stand before the byte: one of abfnrtv?\'"
abbrev pub is_simple : ℕ → Bool
is_simple c = is_some (simple_escape c)

-- A hexadecimal digit.
abbrev pub hex_digit : Pattern
hex_digit = one is_ascii_hexdigit

-- An octal digit.
abbrev pub octal_digit : Pattern
octal_digit = one is_octal

-- The pattern of each kind of piece, in a literal with this quote.
abbrev pub piece_pattern : ℕ → PieceKind → Pattern
piece_pattern quote Run = some is_plain
piece_pattern quote Close = byte quote
piece_pattern quote OtherQuote = one (λ b. is_quote b && not (b == quote))
piece_pattern quote Hex = byte 92 ⋅ one is_x ⋅ hex_digit ⋅ up_to 1 hex_digit
piece_pattern quote Octal = byte 92 ⋅ octal_digit ⋅ up_to 2 octal_digit
piece_pattern quote Simple = byte 92 ⋅ one is_simple
piece_pattern quote ShortChar = byte 92 ⋅ byte 117 ⋅ times 4 hex_digit
piece_pattern quote LongChar = byte 92 ⋅ byte 85 ⋅ times 8 hex_digit

-- The piece of a kind, if the first n bytes of the text match.
abbrev pub piece_as : PieceKind → List ℕ → ℕ → Piece
piece_as Run text n = run (take n text)
piece_as Close text n = ends
piece_as OtherQuote text n = adds (slice_index text 0 ∷ []) n
piece_as Hex text n = byte_piece (digits_value 16 (drop 2 (take n text))) n
piece_as Octal text n = byte_piece (digits_value 8 (drop 1 (take n text))) n
piece_as Simple text n = simple_piece (simple_escape (slice_index text 1))
piece_as ShortChar text n = char_piece (digits_value 16 (drop 2 (take n text))) n
piece_as LongChar text n = char_piece (digits_value 16 (drop 2 (take n text))) n

-- The piece where no pattern matches. A newline ends the literal, and any other byte is an invalid
-- piece.
abbrev pub unmatched : List ℕ → Piece
unmatched text = if slice_index text 0 == 10 then breaks else wrong (slice_index text 0 == 92) 1

-- The piece at the front of a text is the longest match of a pattern. If no pattern matches, it is
-- as above.
abbrev pub IsPiece : ℕ → List ℕ → Piece → Type 0
IsPiece quote text p =
    ((k : PieceKind) × (n : ℕ) × IsLongest (piece_pattern quote) k text n × (p ≡ piece_as k text n))
    ⊎ (((k : PieceKind) (n : ℕ) → Fits (piece_pattern quote k) text n → ⊥) × (p ≡ unmatched text))

-- The text of a literal consists of these pieces, up to the closing quote, a newline or the end.
abbrev pub IsPieces : ℕ → List ℕ → List Piece → Type 0
IsPieces quote text [] = length text ≡ 0
IsPieces quote text (p ∷ ps) = (0 < length text) × IsPiece quote text p × (is_last p ≡ true → ps ≡ []) × (is_last p ≡ false → IsPieces quote (drop (piece_len p) text) ps)

-- Whether the piece is invalid.
abbrev pub is_wrong : Piece → Bool
is_wrong (wrong is_escape n) = true
is_wrong p = false

-- Whether the first piece is invalid.
abbrev pub begins_wrong : List Piece → Bool
begins_wrong [] = false
begins_wrong (p ∷ ps) = is_wrong p

-- Whether all pieces are invalid.
abbrev pub all_wrong : List Piece → Bool
all_wrong [] = true
all_wrong (p ∷ ps) = is_wrong p && all_wrong ps
