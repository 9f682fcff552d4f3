-- What pieces spell in text format. The rules are those of the language that protobuf describes; which
-- fields take which values is told by their types, and no matter here.
use Rattle.std.specs.Prelude.{◌≡◌, ℕ, suc, ◌⊎◌, Bool, true, false, List, [], ◌∷◌, ◌++◌, All}
use Rattle.protox_lexeme.specs.Shapes.{Shape, Ident, Int, Float, Str, Mark}
use Rattle.protox_lexeme.specs.Tokens.{shape_of}
use Rattle.protox_text_format.specs.declared.item.Item.{Item}
use Rattle.protox_text_format.specs.declared.item.Item.TheVariants as item
use Rattle.protox_text_format.specs.declared.item.Piece.{Piece}

-- ---- single pieces

abbrev pub Stands : ℕ → Piece → Type 0
Stands mark piece = shape_of piece.token ≡ Mark mark

abbrev pub is_word_shape : Shape → Bool
is_word_shape (Ident word) = true
is_word_shape _ = false

abbrev pub is_string_shape : Shape → Bool
is_string_shape (Str bytes) = true
is_string_shape _ = false

-- a word or a number
abbrev pub is_plain_shape : Shape → Bool
is_plain_shape (Ident word) = true
is_plain_shape (Int n) = true
is_plain_shape (Float text) = true
is_plain_shape _ = false

abbrev pub IsWord : Piece → Type 0
IsWord piece = is_word_shape (shape_of piece.token) ≡ true

abbrev pub IsString : Piece → Type 0
IsString piece = is_string_shape (shape_of piece.token) ≡ true

abbrev pub IsPlain : Piece → Type 0
IsPlain piece = is_plain_shape (shape_of piece.token) ≡ true

-- ---- names and values

-- words with dots between them
pub data IsDotted : List Piece → Type 0 where
  LastWord : (word : Piece) → IsWord word → IsDotted (word ∷ [])
  NextWord : (word dot : Piece) (more : List Piece) → IsWord word → Stands 46 dot → IsDotted more → IsDotted (word ∷ dot ∷ more)

-- The name of a field: a word; or in brackets the name of an extension, or a domain, `/` and the
-- name of a type.
pub data IsName : List Piece → Type 0 where
  OfField : (word : Piece) → IsWord word → IsName (word ∷ [])
  OfExtension : (open_at close_at : Piece) (name : List Piece) → Stands 91 open_at → IsDotted name → Stands 93 close_at → IsName (open_at ∷ name ++ close_at ∷ [])
  OfType : (open_at slash close_at : Piece) (domain name : List Piece) → Stands 91 open_at → IsDotted domain → Stands 47 slash → IsDotted name → Stands 93 close_at → IsName (open_at ∷ domain ++ slash ∷ name ++ close_at ∷ [])

-- a word or a number, also behind `-`; or strings
pub data IsScalar : List Piece → Type 0 where
  Plain : (piece : Piece) → IsPlain piece → IsScalar (piece ∷ [])
  Negative : (minus piece : Piece) → Stands 45 minus → IsPlain piece → IsScalar (minus ∷ piece ∷ [])
  Strings : (first : Piece) (more : List Piece) → All IsString (first ∷ more) → IsScalar (first ∷ more)

-- a colon, or none
pub data IsColon : Bool → List Piece → Type 0 where
  NoColon : IsColon false []
  AColon : (colon : Piece) → Stands 58 colon → IsColon true (colon ∷ [])

-- `;` or `,`, or nothing
pub data IsEnd : List Piece → Type 0 where
  NoMark : IsEnd []
  AMark : (mark : Piece) → Stands 59 mark ⊎ Stands 44 mark → IsEnd (mark ∷ [])

-- ---- messages

-- a step through a message: the name of a field, with a colon or without; a value that is no
-- message; and where messages and lists begin and end
pub data Step : Type 0 where
  Name : List Piece → Bool → Step
  Scalar : List Piece → Step
  Open Close OpenList CloseList : Step

abbrev pub seen : Item → Step
seen (item.Name name colon) = Name name.now colon
seen (item.Scalar value) = Scalar value.now
seen item.Open = Open
seen item.Close = Close
seen item.OpenList = OpenList
seen item.CloseList = CloseList

-- what pieces may spell
pub data Form : Type 0 where
  AMessage : Form  -- fields, one behind the other
  AHeld : Form  -- what a field holds: a value, or values in brackets
  AValue : Form  -- a scalar, or a message in braces or in angle brackets
  Values : Form  -- values with `,` between them, and `]`

-- The pieces spell something of this form, the steps through which are these. In it, messages stand in
-- one another at most so many deep.
pub data Spells : Form → ℕ → List Piece → List Step → Type 0 where
  NoField : (n : ℕ) → Spells AMessage n [] []
  AField : (n : ℕ) (has : Bool) (name colon held end more : List Piece) (steps rest : List Step) → IsName name → IsColon has colon → Spells AHeld n held steps → IsEnd end → Spells AMessage n more rest → Spells AMessage n (name ++ colon ++ held ++ end ++ more) (Name name has ∷ steps ++ rest)
  OneValue : (n : ℕ) (value : List Piece) (steps : List Step) → Spells AValue n value steps → Spells AHeld n value steps
  NoValue : (n : ℕ) (open_at close_at : Piece) → Stands 91 open_at → Stands 93 close_at → Spells AHeld n (open_at ∷ close_at ∷ []) (OpenList ∷ CloseList ∷ [])
  AList : (n : ℕ) (open_at : Piece) (values : List Piece) (steps : List Step) → Stands 91 open_at → Spells Values n values steps → Spells AHeld n (open_at ∷ values) (OpenList ∷ steps)
  AScalar : (n : ℕ) (value : List Piece) → IsScalar value → Spells AValue n value (Scalar value ∷ [])
  InBraces : (n : ℕ) (open_at close_at : Piece) (inside : List Piece) (steps : List Step) → Stands 123 open_at → Spells AMessage n inside steps → Stands 125 close_at → Spells AValue (suc n) (open_at ∷ inside ++ close_at ∷ []) (Open ∷ steps ++ Close ∷ [])
  InAngles : (n : ℕ) (open_at close_at : Piece) (inside : List Piece) (steps : List Step) → Stands 60 open_at → Spells AMessage n inside steps → Stands 62 close_at → Spells AValue (suc n) (open_at ∷ inside ++ close_at ∷ []) (Open ∷ steps ++ Close ∷ [])
  LastValue : (n : ℕ) (value : List Piece) (close_at : Piece) (steps : List Step) → Spells AValue n value steps → Stands 93 close_at → Spells Values n (value ++ close_at ∷ []) (steps ++ CloseList ∷ [])
  NextValue : (n : ℕ) (value more : List Piece) (comma : Piece) (steps rest : List Step) → Spells AValue n value steps → Stands 44 comma → Spells Values n more rest → Spells Values n (value ++ comma ∷ more) (steps ++ rest)

-- They spell nothing else of this form.
abbrev pub SpellsOnly : Form → ℕ → List Piece → List Step → Type 0
SpellsOnly form n pieces steps = (others : List Step) → Spells form n pieces others → others ≡ steps
