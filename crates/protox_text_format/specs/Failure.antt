-- What is told where pieces spell no message.
use Rattle.std.specs.Prelude.{◌≡◌, ℕ, ◌≤◌, ⊤, List, [], ◌∷◌, ◌++◌, drop, length, take}
use Rattle.protox_lexeme.specs.Shapes.{Int}
use Rattle.protox_lexeme.specs.Tokens.{shape_of}
use Rattle.protox_text_format.specs.Spelling.{AMessage, IsWord, Spells, Stands, Step}
use Rattle.protox_text_format.specs.declared.fault.TextFailure.{TextFailure}
use Rattle.protox_text_format.specs.declared.fault.TextFailure.TheVariants as failure
use Rattle.protox_text_format.specs.declared.fault.TextFault.{TextFault}
use Rattle.protox_text_format.specs.declared.fault.TextFaultKind.{TextFaultKind}
use Rattle.protox_text_format.specs.declared.fault.TextFaultKind.TheVariants.{NoMark, NoValue, NoWord, TooDeep}
use Rattle.protox_text_format.specs.declared.item.Piece.{Piece}

-- Some message begins with these pieces, in which messages stand in one another at most so many deep.
abbrev pub Begins : ℕ → List Piece → Type 0
Begins levels pieces = (more : List Piece) × (steps : List Step) × Spells AMessage levels (pieces ++ more) steps

abbrev pub IsNumber : Piece → Type 0
IsNumber piece = (n : ℕ) × (shape_of piece.token ≡ Int n)

-- A message goes on behind the pieces with every piece of which P holds.
abbrev pub GoesOnWith : List Piece → (Piece → Type 0) → Type 0
GoesOnWith pieces P = (piece : Piece) → P piece → Begins 100 (pieces ++ piece ∷ [])

-- None goes on with such a piece.
abbrev pub NeverGoesOnWith : List Piece → (Piece → Type 0) → Type 0
NeverGoesOnWith pieces P = (piece : Piece) → P piece → Begins 100 (pieces ++ piece ∷ []) → ⊥

-- What is told of the pieces up to the one that is wrong, and of those from it on.
abbrev pub IsTrue : TextFaultKind → List Piece → List Piece → Type 0
IsTrue NoWord before from = GoesOnWith before IsWord × NeverGoesOnWith before IsNumber
IsTrue (NoMark mark) before from = GoesOnWith before (Stands mark)
IsTrue NoValue before from = GoesOnWith before IsNumber
IsTrue TooDeep before from = GoesOnWith before IsNumber × Begins 101 (before ++ take 1 from)

-- No message goes on with the first of these pieces; or behind all pieces one has to go on.
abbrev pub StopsAt : List Piece → List Piece → Type 0
StopsAt before [] = (steps : List Step) → Spells AMessage 100 before steps → ⊥
StopsAt before (piece ∷ more) = Begins 100 (before ++ piece ∷ []) → ⊥

-- The piece is the first with which no message goes on, and what is told of it is true.
pub record IsFirst (pieces : List Piece) (fault : TextFault) : Type 0 where
  pub within : fault.piece ≤ length pieces
  pub stops : StopsAt (take fault.piece pieces) (drop fault.piece pieces)
  pub is_true : IsTrue fault.kind (take fault.piece pieces) (drop fault.piece pieces)

-- P of the fault, unless memory ran out.
abbrev pub IfFault : TextFailure → (TextFault → Type 0) → Type 0
IfFault failure.OutOfMemory P = ⊤
IfFault (failure.Fault fault) P = P fault
