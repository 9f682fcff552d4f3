-- The table of a source: its tokens, and the comments and newlines before each of them.
use Rattle.std.specs.Prelude.{ℕ, ◌<◌, ◌≤◌, Bool, true, false, if◌then◌else◌, List, [], ◌∷◌, ◌++◌}
use Rattle.protox_fault.specs.declared.error.ParseErrorKind.{ParseErrorKind}
use Rattle.protox_fault.specs.declared.error.ParseErrorKind.TheVariants.{InvalidToken}
use Rattle.protox_fault.specs.Faults.{Span, span_from}
use Rattle.protox_lexeme.specs.Lexemes.{Lexeme}
use Rattle.protox_lexeme.specs.Shapes.{Shape, LineComment, BlockComment, Newline, Invalid, Rows}

-- Whether a lexeme belongs to a gap: it is a comment or a newline.
abbrev pub is_gap : Shape → Bool
is_gap (LineComment s) = true
is_gap (BlockComment s) = true
is_gap Newline = true
is_gap _ = false

-- The rows of a table: all lexemes but comments and newlines, with their spans.
abbrev pub rows_of : List Lexeme → Rows Span
rows_of [] = []
rows_of (x ∷ xs) = if is_gap x.shape then rows_of xs else record { shape = x.shape; at = span_from x.start x.stop } ∷ rows_of xs

-- For each row, whether its value owns no memory: it is a piece of the source, or there is none.
abbrev pub borrowed_rows : List Lexeme → List Bool
borrowed_rows [] = []
borrowed_rows (x ∷ xs) = if is_gap x.shape then borrowed_rows xs else x.borrowed ∷ borrowed_rows xs

-- Adds elements at the front of the first list, if there is a list.
abbrev pub in_front : {T : Type 0} → List T → List (List T) → List (List T)
in_front ys [] = []
in_front ys (xs ∷ xss) = (ys ++ xs) ∷ xss

-- The gaps: the comments and newlines before each row, and at last those before the end of the
-- source.
abbrev pub gaps_of : List Lexeme → List (List Shape)
gaps_of [] = [] ∷ []
gaps_of (x ∷ xs) = if is_gap x.shape then in_front (x.shape ∷ []) (gaps_of xs) else [] ∷ gaps_of xs

-- The fault of an invalid lexeme.
abbrev pub invalid_faults : Shape → Span → List ParseErrorKind
invalid_faults Invalid span = InvalidToken span ∷ []
invalid_faults _ span = []

-- The faults of a row: those of its lexeme, and then that it is invalid.
abbrev pub row_faults : Lexeme → List ParseErrorKind
row_faults x = x.faults ++ invalid_faults x.shape (span_from x.start x.stop)

-- The faults of each gap and of the row after it. Each counts as outside an aggregate.
abbrev pub faults_of : List Lexeme → List (List ParseErrorKind)
faults_of [] = [] ∷ []
faults_of (x ∷ xs) = if is_gap x.shape then in_front x.faults (faults_of xs) else row_faults x ∷ faults_of xs

-- The rows of a source, whether each of them owns no memory, the gaps, and the faults.
pub record Table : Type 0 where
  pub rows : Rows Span
  pub borrowed : List Bool
  pub gaps : List (List Shape)
  pub faults : List (List ParseErrorKind)

-- The table of these lexemes.
abbrev pub table_of : List Lexeme → Table
table_of xs = record { rows = rows_of xs; borrowed = borrowed_rows xs; gaps = gaps_of xs; faults = faults_of xs }

-- The rows stand between two places, each after the one before, and each has at least one byte.
abbrev pub StandBetween : ℕ → ℕ → Rows Span → Type 0
StandBetween low high [] = low ≤ high
StandBetween low high (r ∷ rs) = (low ≤ r.at.start) × (r.at.start < r.at.end) × StandBetween r.at.end high rs
