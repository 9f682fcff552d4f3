-- What contracts see of the rows of a table.
use Rattle.std.specs.Prelude.{◌≡◌, ℕ, ◌<◌, ◌≤◌, ◌-◌, [], ◌∷◌, drop, length, Option, Some, None, slice_get, slice_index_or, option_map}
use Rattle.protox_fault.specs.Faults.{Span}
use Rattle.protox_lexeme.specs.Shapes.{Shape, Row, Rows, Newline, Invalid}
use Rattle.protox_ast.specs.Places.{Place, placed}
use Rattle.protox_rows.specs.declared.rows.RowAt.TheInside as row_at
use Rattle.protox_rows.specs.declared.rows.Unread.TheInside as unread

-- A default row, without comments.
abbrev pub bare_row : Row Span
bare_row = record { shape = Invalid; at = record { start = 0; end = 0 } }

-- The shape of a row, or None after the last one.
abbrev pub shape_of_row : Rows Span → ℕ → Option Shape
shape_of_row rows k = option_map (λ (r : Row Span). r.shape) (slice_get rows k)

-- The rows that have not been read.
abbrev pub rows_left : unread.Inside → Rows Place
rows_left u = drop u.index (placed u.table.now)

-- A default row, with comments.
abbrev pub no_row : Row Place
no_row = record { shape = Newline; at = record { span = record { start = 0; end = 0 }; detached = []; leading = None; trailing = None } }

-- The row at a position.
abbrev pub the_row : row_at.Inside → Row Place
the_row r = slice_index_or (placed r.table.now) (r.behind - 1) no_row

-- The position points to a row.
abbrev pub IsRow : row_at.Inside → Type 0
IsRow r = (0 < r.behind) × (r.behind ≤ length (placed r.table.now))

-- The first row, or None if there is no row.
abbrev pub IsFirst : Rows Place → Option (Row Place) → Type 0
IsFirst rows None = rows ≡ []
IsFirst [] (Some r) = ⊥
IsFirst (x ∷ xs) (Some r) = x ≡ r

-- The first row and the others, or None if there is no row.
abbrev pub IsSplit : Rows Place → Option (Row Place × Rows Place) → Type 0
IsSplit rows None = rows ≡ []
IsSplit rows (Some x) = rows ≡ x.0 ∷ x.1
