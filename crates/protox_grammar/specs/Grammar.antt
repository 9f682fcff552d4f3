-- The laws of the grammar: which trees rows spell, and what the reader finds.
use Rattle.std.specs.Prelude.{◌≡◌, ◌↔◌, ◌<◌, ◌≤◌, ℕ, suc, ◌+◌, List, length, Ok, Err}
use Rattle.protox_lexeme.specs.Shapes.{Shape, Rows}
use Rattle.protox_ast.specs.Tree.{File}
use Rattle.protox_ast.specs.Nodes.{depth}
use Rattle.protox_ast.specs.Spells.{Spells, GoesOn, BeginsFile, IsUnexpected, IsEnded, shapes}
use Rattle.protox_grammar.specs.Reader.{Unexpected, Deep}
use Rattle.protox_grammar.specs.Reads.{read}

-- Token n opens a body that is too deep. Some file begins with the tokens up to it, and every such
-- file has more levels than allowed.
abbrev pub IsTooDeep : ℕ → List Shape → ℕ → Type 0
IsTooDeep levels tokens n = (n < length tokens) × BeginsFile tokens (suc n) × ((f : File ℕ) → GoesOn tokens (suc n) f → levels < depth f)

-- ---- the laws

-- No rows spell two trees.
abbrev pub OneTree : Type 0 → Type 0
OneTree M = (rows : Rows M) (f g : File M) → Spells rows f → Spells rows g → f ≡ g

-- The reader gives a tree just when the rows spell it and it is at most n levels deep.
abbrev pub AcceptsIff : Type 0 → Type 0
AcceptsIff M = (n : ℕ) (rows : Rows M) (f : File M) → (read n rows ≡ Ok f) ↔ (Spells rows f × (depth f ≤ n))

-- If reading stops at a row, that row is unexpected. `left` rows follow it.
abbrev pub TightUnexpected : Type 0 → Type 0
TightUnexpected M = (levels left : ℕ) (rows : Rows M) → read levels rows ≡ Err (Unexpected (suc left)) → (n : ℕ) × (n + suc left ≡ length rows) × IsUnexpected (shapes rows) n

-- Or the row opens a body that is too deep.
abbrev pub TightDeep : Type 0 → Type 0
TightDeep M = (levels left : ℕ) (rows : Rows M) → read levels rows ≡ Err (Deep (suc left)) → (n : ℕ) × (n + suc left ≡ length rows) × IsTooDeep levels (shapes rows) n

-- If reading stops at the end, the rows end too soon.
abbrev pub TightEnd : Type 0 → Type 0
TightEnd M = (levels : ℕ) (rows : Rows M) → read levels rows ≡ Err (Unexpected 0) → IsEnded (shapes rows)
