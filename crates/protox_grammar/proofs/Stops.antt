-- Where reading stops, in terms of rows and their tags. `Fronts` says it in terms of the tokens
-- alone.
use Rattle.std.proofs.Common.{◌≡◌, ◌<◌, ℕ, suc, [], ◌∷◌, ◌++◌, length}
use Rattle.protox_lexeme.specs.Shapes.{Row, Rows}
use Rattle.protox_ast.specs.Nodes.{depth}
use Rattle.protox_ast.specs.Spells.{Spells}
use Rattle.protox_ast.specs.Tree.{File}

-- some file begins with these rows
abbrev pub BeginsWith : {M : Type 0} → Rows M → Type 0
BeginsWith {M} front = (f : File M) × (more : Rows M) × Spells (front ++ more) f

-- No file begins with the rows up to this one, which has `left - 1` rows after it.
pub record UnexpectedRow {M : Type 0} (rows : Rows M) (left : ℕ) : Type 0 where
  pub front : Rows M
  pub here : Row M
  pub rest : Rows M
  pub parts : rows ≡ front ++ (here ∷ rest)
  pub left_is : left ≡ suc (length rest)
  pub before : BeginsWith front
  pub with_it : BeginsWith (front ++ (here ∷ [])) → ⊥

-- This row opens something that is too deep.
pub record TooDeepRow {M : Type 0} (n : ℕ) (rows : Rows M) (left : ℕ) : Type 0 where
  pub front : Rows M
  pub here : Row M
  pub rest : Rows M
  pub parts : rows ≡ front ++ (here ∷ rest)
  pub left_is : left ≡ suc (length rest)
  pub begins : BeginsWith (front ++ (here ∷ []))
  pub deeper : (f : File M) (more : Rows M) → Spells (front ++ (here ∷ more)) f → n < depth f

-- Some file begins with the rows, but they are not yet a file.
pub record EndedRows {M : Type 0} (rows : Rows M) : Type 0 where
  pub begins : BeginsWith rows
  pub no_file : (f : File M) → Spells rows f → ⊥
