-- The places of tokens in a source, and the comments around them.
use Rattle.std.specs.Prelude.{ℕ, Bool, true, false, List, [], ◌∷◌, Option, Some, None}
use Rattle.protox_fault.specs.Faults.{Span}
use Rattle.protox_lexeme.specs.Shapes.{Shape, Row, Rows}
use Rattle.protox_lexeme.specs.Gaps.{attribution}
use Rattle.protox_lexeme.specs.Table.{Table}

-- The span of a token, and comments. A declaration that begins with the token has its detached
-- comments and its leading comment. A declaration that ends or opens its body with the token has
-- its trailing comment.
pub record Place : Type 0 where
  pub span : Span
  pub detached : List (List ℕ)
  pub leading : Option (List ℕ)
  pub trailing : Option (List ℕ)

-- The gap before the next token.
abbrev pub next_gap : List (List Shape) → List Shape
next_gap [] = []
next_gap (gap ∷ gaps) = gap

-- The gaps after the next token.
abbrev pub later_gaps : List (List Shape) → List (List Shape)
later_gaps [] = []
later_gaps (gap ∷ gaps) = gaps

-- The token after a gap, or None at the end of the source.
abbrev pub next_shape : Rows Span → Option Shape
next_shape [] = None
next_shape (row ∷ rows) = Some row.shape

-- The place of a token, given the gap before it, the gaps after it and the tokens after it. `first`
-- says that the token begins the file.
abbrev pub place_of : Bool → Row Span → List Shape → List (List Shape) → Rows Span → Place
place_of first row gap gaps rows = record {
  span = row.at;
  detached = (attribution gap first (Some row.shape)).detached;
  leading = (attribution gap first (Some row.shape)).leading;
  trailing = (attribution (next_gap gaps) false (next_shape rows)).trailing;
}

-- The tokens with their places. A gap stands before each token, and one after the last. `first`
-- says that the first token begins the file.
abbrev pub placed_from : Bool → Rows Span → List (List Shape) → Rows Place
placed_from first [] gaps = []
placed_from first (row ∷ rows) gaps = record { shape = row.shape; at = place_of first row (next_gap gaps) (later_gaps gaps) rows } ∷ placed_from false rows (later_gaps gaps)

-- The tokens of a table, with their places.
abbrev pub placed : Table → Rows Place
placed table = placed_from true table.rows table.gaps
