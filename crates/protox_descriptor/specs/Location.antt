-- What contracts see of a location.
use Rattle.std.specs.Prelude.{ℕ, ℤ, List, Option}

-- The place of one part of a descriptor: its path, its span and its comments, as in
-- `SourceCodeInfo.Location`. Texts are lists of bytes.
pub record Location : Type 0 where
  pub path : List ℤ
  pub span : List ℤ
  pub leading_comments : Option (List ℕ)
  pub trailing_comments : Option (List ℕ)
  pub leading_detached_comments : List (List ℕ)
