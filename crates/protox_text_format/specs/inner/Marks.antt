-- The first of some pieces.
use Rattle.std.specs.Prelude.{◌≡◌, true, List, [], ◌∷◌}
use Rattle.protox_lexeme.specs.Shapes.{Mark}
use Rattle.protox_lexeme.specs.Tokens.{shape_of}
use Rattle.protox_lexeme.specs.declared.token.Token.{Token}
use Rattle.protox_text_format.specs.Spelling.{is_plain_shape, is_string_shape, is_word_shape}
use Rattle.protox_text_format.specs.declared.item.Piece.{Piece}
use Rattle.protox_text_format.specs.declared.marks.Sort.{Sort}
use Rattle.protox_text_format.specs.declared.marks.Sort.TheVariants as sort

-- The token is of this sort.
abbrev pub IsOf : Sort → Token → Type 0
IsOf sort.Word token = is_word_shape (shape_of token) ≡ true
IsOf sort.Plain token = is_plain_shape (shape_of token) ≡ true
IsOf sort.Text token = is_string_shape (shape_of token) ≡ true
IsOf (sort.Mark mark) token = shape_of token ≡ Mark mark

-- P of the first piece does not hold, if there is one.
abbrev pub NotFirst : (Piece → Type 0) → List Piece → Type 0
NotFirst P [] = Unit {0}
NotFirst P (piece ∷ more) = P piece → ⊥

-- P holds of the first piece, and these are the others.
pub record Begins (P : Piece → Type 0) (pieces more : List Piece) : Type 0 where
  pub piece : Piece
  pub cut : pieces ≡ piece ∷ more
  pub is : P piece
