-- What contracts see of the comments of a declaration.
use Rattle.std.specs.Prelude.{ℕ, List, Option}

-- The detached comments before a declaration in order, the comment that leads it, and the comment
-- that trails it. Texts are lists of bytes.
pub record Comments : Type 0 where
  pub leading_detached_comments : List (List ℕ)
  pub leading_comment : Option (List ℕ)
  pub trailing_comment : Option (List ℕ)
