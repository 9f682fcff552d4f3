-- What is read of a value that is no message.
use Rattle.std.specs.Prelude.{◌≡◌, List, [], ◌∷◌, ◌++◌, All}
use Rattle.protox_text_format.specs.Spelling.{IsPlain, IsScalar, IsString, Stands}
use Rattle.protox_text_format.specs.declared.item.Piece.{Piece}
use Rattle.protox_text_format.specs.inner.Marks.{NotFirst}

-- Strings stand in front of what is left.
pub record StringsTo (pieces left : List Piece) : Type 0 where
  pub strings : List Piece
  pub cut : pieces ≡ strings ++ left
  pub are : All IsString strings

-- Strings stand in front of the others, of which the first is none.
pub record StringsThen (pieces more : List Piece) : Type 0 where
  pub to : StringsTo pieces more
  pub ends : NotFirst IsString more

-- A value stands in front of the others. If it is strings, these are all.
pub record ScalarThen (pieces more : List Piece) : Type 0 where
  pub value : List Piece
  pub cut : pieces ≡ value ++ more
  pub scalar : IsScalar value
  pub ends : All IsString value → NotFirst IsString more

-- What is read of a value as far as it goes, and what stands behind.
pub data IsNoScalar : List Piece → List Piece → Type 0 where
  AtFront : (wrong : List Piece) → NotFirst IsPlain wrong → NotFirst (Stands 45) wrong → NotFirst IsString wrong → IsNoScalar [] wrong
  BehindMinus : (minus : Piece) (wrong : List Piece) → Stands 45 minus → NotFirst IsPlain wrong → IsNoScalar (minus ∷ []) wrong

-- No value stands at the front, and the piece from which on there is none is the first of these.
pub record NoScalar (pieces wrong : List Piece) : Type 0 where
  pub before : List Piece
  pub cut : pieces ≡ before ++ wrong
  pub breaks : IsNoScalar before wrong
