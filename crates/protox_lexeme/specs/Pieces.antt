-- What contracts see of a piece of a string literal.
use Rattle.std.specs.Prelude.{ℕ, ◌+◌, ◌<◌, ◌≤◌, Bool, slice_index, ◌&&◌, nat_lt, length, ◌++◌, List, [], ◌∷◌, take, encode_utf8}
use Rattle.protox_lexeme.specs.declared.piece.Piece.{Piece}
use Rattle.protox_lexeme.specs.declared.piece.Piece.TheVariants as code
use Rattle.std.specs.Cow.{cow_slice_items}
use Rattle.protox_lexeme.specs.declared.string.Reader.{Reader}
use Rattle.protox_fault.specs.declared.error.ParseErrorKind.{ParseErrorKind}
use Rattle.protox_lexeme.specs.Lexemes.{Lexeme}
use Rattle.protox_lexeme.specs.Shapes.{Str}
use Rattle.protox_lexeme.specs.Tokens.{is_borrowed_slice}
use Rattle.protox_lexeme.specs.Strings as spec

-- The piece at the front of a text.
abbrev pub piece_of : List ℕ → Piece → spec.Piece
piece_of text (code.Run n) = spec.run (take n text)
piece_of text (code.Byte b n) = spec.adds (b ∷ []) n
piece_of text (code.Char c n) = spec.adds (encode_utf8 c) n
piece_of text (code.Wrong is_escape n) = spec.wrong is_escape n
piece_of text code.Ends = spec.ends
piece_of text code.Breaks = spec.breaks

-- The piece has at least one byte and lies within the text.
abbrev pub IsWithin : List ℕ → Piece → Type 0
IsWithin text (code.Run n) = (1 ≤ n) × (n ≤ length text)
IsWithin text (code.Byte b n) = (1 ≤ n) × (n ≤ length text)
IsWithin text (code.Char c n) = (1 ≤ n) × (n ≤ length text)
IsWithin text (code.Wrong is_escape n) = (1 ≤ n) × (n ≤ length text)
IsWithin text code.Ends = 1 ≤ length text
IsWithin text code.Breaks = 1 ≤ length text

-- A literal as far as it has been read.
pub record Reading : Type 0 where
  pub value : List ℕ
  pub borrowed : Bool
  pub bad : spec.Bad
  pub faults : List ParseErrorKind

-- The part of a literal that the code has read.
abbrev pub reading_of : Reader → Reading
reading_of r = record {
  value = cow_slice_items r.value;
  borrowed = is_borrowed_slice r.value;
  bad = r.bad;
  faults = r.faults.items;
}

-- The whole literal: what has been read, and these pieces still to come.
abbrev pub finished : ℕ → Reading → ℕ → List spec.Piece → Lexeme
finished start r at ps = record {
  start = start;
  stop = at + spec.len_of ps;
  shape = Str (r.value ++ spec.value_of ps);
  borrowed = r.borrowed && spec.is_one_run (nat_lt 0 (length r.value)) ps;
  faults = r.faults ++ spec.faults_of r.bad at ps;
}

-- If the piece is the last one, it is a single ASCII byte.
abbrev pub IsAsciiIfLast : List ℕ → Piece → Type 0
IsAsciiIfLast text code.Ends = slice_index text 0 < 128
IsAsciiIfLast text code.Breaks = slice_index text 0 < 128
IsAsciiIfLast text _ = Unit {0}
