-- Rows, of which the first ones are kept in 8 bytes each.
use Rattle.std.specs.Prelude.{◌≡◌, ◌<◌, ◌≤◌, ◌^◌, ◌++◌, ℕ, None, List, [], map}
use Rattle.protox_lex.specs.declared.row_list.NarrowRow.{NarrowRow}
use Rattle.protox_lex.specs.declared.row_list.NumberedRow.{NumberedRow}

-- A narrow row as a numbered row.
abbrev pub widened : NarrowRow → NumberedRow
widened row = record { start = row.start; token = row.token; len = None }

-- The narrow rows, and then the wide ones.
abbrev pub listed : List NarrowRow → List NumberedRow → List NumberedRow
listed narrow wide = map widened narrow ++ wide

-- A row that begins before `wide_from` is kept narrow. `wide_from` is at most 2 ^ 32, and 0 as soon
-- as a row is wide.
pub record AreNarrow (wide_from : ℕ) (wide : List NumberedRow) : Type 0 where
  pub small : wide_from ≤ 2 ^ 32
  pub none : 0 < wide_from → wide ≡ []
