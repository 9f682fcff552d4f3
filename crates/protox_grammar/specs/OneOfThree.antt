-- Each list of rows is exactly one of three things. This is said by the definitions of the grammar
-- alone.
use Rattle.std.specs.Prelude.{◌≡◌, ◌⊎◌, ℕ, List}
use Rattle.protox_lexeme.specs.Shapes.{Shape, Rows}
use Rattle.protox_ast.specs.Spells.{Spells, IsUnexpected, IsEnded, shapes}
use Rattle.protox_ast.specs.Tree.{File}

-- The rows spell some file.
abbrev pub IsSpelling : {M : Type 0} → Rows M → Type 0
IsSpelling {M} rows = (f : File M) × Spells rows f

-- Some token is unexpected.
abbrev pub HasUnexpected : List Shape → Type 0
HasUnexpected tokens = (n : ℕ) × IsUnexpected tokens n

-- The rows spell a file, or they end too soon, or one of them is unexpected. Only one of the three
-- holds, and at most one row is unexpected.
pub record IsOneOfThree {M : Type 0} (rows : Rows M) : Type 0 where
  pub is_one : IsSpelling rows ⊎ (IsEnded (shapes rows) ⊎ HasUnexpected (shapes rows))
  pub spelling_has_not_ended : IsSpelling rows → IsEnded (shapes rows) → ⊥
  pub spelling_has_none_unexpected : IsSpelling rows → HasUnexpected (shapes rows) → ⊥
  pub ended_has_none_unexpected : IsEnded (shapes rows) → HasUnexpected (shapes rows) → ⊥
  pub one_place : (n other : ℕ) → IsUnexpected (shapes rows) n → IsUnexpected (shapes rows) other → n ≡ other

-- This holds for every list of rows.
abbrev pub OneOfThree : Type 0 → Type 0
OneOfThree M = (rows : Rows M) → IsOneOfThree rows
