-- Tokens as data.
use Rattle.std.specs.Prelude.{ℕ, List}

-- A token without its place. Texts and strings are lists of bytes, and a mark is its byte.
pub data Shape : Type 0 where
  Ident : List ℕ → Shape
  Int : ℕ → Shape
  Float : List ℕ → Shape
  Str : List ℕ → Shape
  Mark : ℕ → Shape
  LineComment : List ℕ → Shape
  BlockComment : List ℕ → Shape
  Newline : Shape
  Invalid : Shape

-- A token with its tag: a place, or nothing.
pub record Row (M : Type 0) : Type 0 where
  pub shape : Shape
  pub at : M

-- Tokens in order, each with its tag.
abbrev pub Rows : Type 0 → Type 0
Rows M = List (Row M)
