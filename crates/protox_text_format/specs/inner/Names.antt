-- What is read of a name.
use Rattle.std.specs.Prelude.{◌≡◌, List, [], ◌∷◌, ◌++◌}
use Rattle.protox_text_format.specs.Spelling.{IsDotted, IsName, IsWord, Stands}
use Rattle.protox_text_format.specs.declared.fault.TextFaultKind.{TextFaultKind}
use Rattle.protox_text_format.specs.declared.fault.TextFaultKind.TheVariants.{NoMark, NoWord}
use Rattle.protox_text_format.specs.declared.item.Piece.{Piece}
use Rattle.protox_text_format.specs.inner.Marks.{NotFirst}

-- words with a dot behind each
pub data IsStarted : List Piece → Type 0 where
  NoWordYet : IsStarted []
  AfterDot : (word dot : Piece) (more : List Piece) → IsWord word → Stands 46 dot → IsStarted more → IsStarted (word ∷ dot ∷ more)

-- Words with a dot behind each stand in front of what is left.
pub record WordsTo (pieces left : List Piece) : Type 0 where
  pub words : List Piece
  pub cut : pieces ≡ words ++ left
  pub started : IsStarted words

-- Words stand in front of the others, and no dot follows.
pub record Words (pieces more : List Piece) : Type 0 where
  pub words : List Piece
  pub cut : pieces ≡ words ++ more
  pub dotted : IsDotted words
  pub ends : NotFirst (Stands 46) more

-- Where the next word is wanted, there is none.
pub record NoWords (pieces wrong : List Piece) : Type 0 where
  pub to : WordsTo pieces wrong
  pub ends : NotFirst IsWord wrong

-- What is read of a name as far as it goes, and what stands behind.
pub data IsBroken : TextFaultKind → List Piece → List Piece → Type 0 where
  AtFront : (wrong : List Piece) → NotFirst IsWord wrong → NotFirst (Stands 91) wrong → IsBroken NoWord [] wrong
  InWords : (open_at : Piece) (words wrong : List Piece) → Stands 91 open_at → IsStarted words → NotFirst IsWord wrong → IsBroken NoWord (open_at ∷ words) wrong
  InType : (open_at slash : Piece) (domain words wrong : List Piece) → Stands 91 open_at → IsDotted domain → Stands 47 slash → IsStarted words → NotFirst IsWord wrong → IsBroken NoWord (open_at ∷ domain ++ slash ∷ words) wrong
  BehindWords : (open_at : Piece) (words wrong : List Piece) → Stands 91 open_at → IsDotted words → NotFirst (Stands 46) wrong → NotFirst (Stands 47) wrong → NotFirst (Stands 93) wrong → IsBroken (NoMark 93) (open_at ∷ words) wrong
  BehindType : (open_at slash : Piece) (domain words wrong : List Piece) → Stands 91 open_at → IsDotted domain → Stands 47 slash → IsDotted words → NotFirst (Stands 46) wrong → NotFirst (Stands 93) wrong → IsBroken (NoMark 93) (open_at ∷ domain ++ slash ∷ words) wrong

-- A name stands in front of the others.
pub record IsNamed (pieces more : List Piece) : Type 0 where
  pub name : List Piece
  pub cut : pieces ≡ name ++ more
  pub is_name : IsName name

-- The name goes no further than to these pieces.
pub record IsUnnamed (pieces wrong : List Piece) (kind : TextFaultKind) : Type 0 where
  pub before : List Piece
  pub cut : pieces ≡ before ++ wrong
  pub broken : IsBroken kind before wrong

-- Behind a bracket the pieces begin with a name.
abbrev pub IsNamedInBrackets : List Piece → List Piece → Type 0
IsNamedInBrackets pieces more = (open_at : Piece) → Stands 91 open_at → IsNamed (open_at ∷ pieces) more

abbrev pub IsUnnamedInBrackets : List Piece → List Piece → TextFaultKind → Type 0
IsUnnamedInBrackets pieces wrong kind = (open_at : Piece) → Stands 91 open_at → IsUnnamed (open_at ∷ pieces) wrong kind
