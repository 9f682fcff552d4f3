-- Pieces of the same shapes, and steps with such pieces. They differ in no more than where the texts of
-- their tokens are kept.
use Rattle.std.specs.Prelude.{◌≡◌, Bool, List, [], ◌∷◌, map}
use Rattle.protox_lexeme.specs.Shapes.{Shape}
use Rattle.protox_lexeme.specs.Tokens.{shape_of}
use Rattle.protox_text_format.specs.Spelling.{Close, CloseList, Name, Open, OpenList, Scalar, Step}
use Rattle.protox_text_format.specs.declared.item.Piece.{Piece}

abbrev pub shapes : List Piece → List Shape
shapes pieces = map (λ (piece : Piece). shape_of piece.token) pieces

pub data Alike : Step → Step → Type 0 where
  Names : (name other : List Piece) (colon : Bool) → shapes name ≡ shapes other → Alike (Name name colon) (Name other colon)
  Scalars : (value other : List Piece) → shapes value ≡ shapes other → Alike (Scalar value) (Scalar other)
  Opens : Alike Open Open
  Closes : Alike Close Close
  ListsOpen : Alike OpenList OpenList
  ListsClose : Alike CloseList CloseList

pub data AreAlike : List Step → List Step → Type 0 where
  NoStep : AreAlike [] []
  MoreSteps : (step other : Step) (more others : List Step) → Alike step other → AreAlike more others
      → AreAlike (step ∷ more) (other ∷ others)
