-- Rows that refer to their tokens by number, and gaps that are kept by number.
use Rattle.std.specs.Prelude.{◌≡◌, ◌<◌, ◌+◌, ◌-◌, ◌^◌, ◌++◌, ◌∷◌, ℕ, Bool, false, if◌then◌else◌, nat_lt, replicate, Option, Some, None, Err, List, [], map, length, slice_index_or}
use Rattle.std.specs.List.{All}
use Rattle.std.specs.Option.{unwrap_or}
use Rattle.protox_lex.specs.declared.shared_rows.KeptToken.{KeptToken}
use Rattle.protox_lex.specs.declared.row_list.NumberedRow.{NumberedRow}
use Rattle.protox_lexeme.specs.declared.token.Token.{Token}
use Rattle.protox_fault.specs.Faults.{Span, span_from}
use Rattle.protox_lex.specs.inner.Grouping.{Grouped}
use Rattle.protox_lexeme.specs.Shapes.{Shape, Mark, Newline, Row, Rows}
use Rattle.protox_lexeme.specs.TokenClass.{class, no_token}
use Rattle.protox_lexeme.specs.Tokens.{shape_of, shape_of_result, borrowed_of_result}

-- The token that is kept under this number.
abbrev pub kept_at : List KeptToken → ℕ → KeptToken
kept_at tokens number = slice_index_or tokens number record { token = Err tt; len = 0; class = no_token }

-- The shape of the token under this number.
abbrev pub shape_at : List KeptToken → ℕ → Shape
shape_at tokens number = shape_of_result (kept_at tokens number).token

-- Whether the token under this number owns no memory.
abbrev pub borrowed_at : List KeptToken → ℕ → Bool
borrowed_at tokens number = borrowed_of_result (kept_at tokens number).token

-- The length that is kept with the token under this number.
abbrev pub len_at : List KeptToken → ℕ → ℕ
len_at tokens number = (kept_at tokens number).len

-- A length is kept with its token if it fits in 4 bytes. Else it is kept with each row.
abbrev pub kept_len : ℕ → ℕ
kept_len len = if nat_lt len (2 ^ 32) then len else 0

-- The length that is kept with the row itself, if it doesn't fit in 4 bytes.
abbrev pub own_len : ℕ → Option ℕ
own_len len = if nat_lt len (2 ^ 32) then None else Some len

-- The length of a row in bytes.
abbrev pub len_by : List KeptToken → NumberedRow → ℕ
len_by tokens row = unwrap_or row.len (len_at tokens row.token)

-- A row as data: its shape and its span.
abbrev pub row_by : List KeptToken → NumberedRow → Row Span
row_by tokens row = record { shape = shape_at tokens row.token; at = span_from row.start (row.start + len_by tokens row) }

-- All rows as data.
abbrev pub rows_by : List KeptToken → List NumberedRow → Rows Span
rows_by tokens rows = map (row_by tokens) rows

-- Whether the token of each row owns no memory.
abbrev pub borrowed_by : List KeptToken → List NumberedRow → List Bool
borrowed_by tokens rows = map (λ row. borrowed_at tokens row.token) rows

-- What contracts see of the rows.
pub record RowsSeen : Type 0 where
  pub rows : Rows Span
  pub borrowed : List Bool

-- The rows as contracts see them.
abbrev pub rows_seen : List KeptToken → List NumberedRow → RowsSeen
rows_seen tokens rows = record { rows = rows_by tokens rows; borrowed = borrowed_by tokens rows }

-- The rows, and one more behind them.
abbrev pub and_row : RowsSeen → Row Span → Bool → RowsSeen
and_row seen row borrowed = record { rows = seen.rows ++ row ∷ []; borrowed = seen.borrowed ++ borrowed ∷ [] }

-- The token of the row is kept, and the end of the row fits in 64 bits.
abbrev pub IsKept : List KeptToken → NumberedRow → Type 0
IsKept tokens row = (row.token < length tokens) × (row.start + len_by tokens row < 2 ^ 64)

-- This holds for every row.
abbrev pub AreKept : List KeptToken → List NumberedRow → Type 0
AreKept tokens rows = All (IsKept tokens) rows

-- Each number that is noted for a byte is the number of that byte's mark.
abbrev pub AreMarks : List KeptToken → List (Option ℕ) → Type 0
AreMarks tokens marks = (byte number : ℕ) → slice_index_or marks byte None ≡ Some number → (number < length tokens) × (shape_at tokens number ≡ Mark byte)

-- Each token is kept with its class.
abbrev pub AreClassed : List KeptToken → Type 0
AreClassed tokens = All (λ (t : KeptToken). t.class ≡ class (shape_of_result t.token)) tokens

-- What always holds for shared rows.
pub record AreShared (tokens : List KeptToken) (rows : List NumberedRow) (marks : List (Option ℕ)) (recent : List ℕ) : Type 0 where
  pub kept : AreKept tokens rows
  pub marks_are : AreMarks tokens marks
  pub classed : AreClassed tokens
  pub bytes : length marks ≡ 256
  pub slots : length recent ≡ 1024

-- ---- gaps

-- The eight newlines from which gaps are borrowed.
abbrev pub AreLines : List Token → Type 0
AreLines lines = map shape_of lines ≡ replicate 8 Newline

-- The gap of a number. The numbers below 8 stand for that many newlines. The others count the gaps
-- that are kept.
abbrev pub gap_at : List (List Token) → ℕ → List Shape
gap_at kept number = if nat_lt number 8 then replicate number Newline else map shape_of (slice_index_or kept (number - 8) [])

-- The gaps of these numbers, and the gap that has begun: what is kept of it, and newlines behind
-- that.
abbrev pub gaps_by : List ℕ → Grouped Token → ℕ → Grouped Shape
gaps_by numbers kept newlines = record {
  ended = map (gap_at kept.ended) numbers;
  begun = map shape_of kept.begun ++ replicate newlines Newline;
}

-- The gap of each number exists.
abbrev pub AreThere : List ℕ → List (List Token) → Type 0
AreThere numbers kept = All (λ number. number < 8 + length kept) numbers

-- What always holds for shared gaps. If `keeps` is false, the gap that has begun has only newlines
-- so far, and no number is wide.
pub record AreGaps (lines : List Token) (numbers : List ℕ) (kept : Grouped Token) (wide : List ℕ) (keeps : Bool) : Type 0 where
  pub newlines : AreLines lines
  pub there : AreThere numbers kept.ended
  pub begun : keeps ≡ false → kept.begun ≡ []
  pub narrow : keeps ≡ false → wide ≡ []

-- So many newlines are appended to tokens.
pub record AddsNewlines (tokens : List Token) (count : ℕ) (all : List Token) : Type 0 where
  pub more : List Token
  pub appended : all ≡ tokens ++ more
  pub newlines : map shape_of more ≡ replicate count Newline
