-- The way of a reader through a message.
use Rattle.std.specs.Prelude.{◌≡◌, ◌⊎◌, ⊤, ℕ, ◌+◌, ◌*◌, ◌<◌, ◌≤◌, Bool, true, false, List, [], ◌∷◌, ◌++◌, length, map, reverse, take, IfErr, IfOk, Result}
use Rattle.protox_text_format.specs.Failure.{IsNumber}
use Rattle.protox_text_format.specs.Spelling.{Close, CloseList, IsColon, IsName, IsScalar, IsWord, Name, Open, OpenList, Scalar, Stands, Step, seen}
use Rattle.protox_text_format.specs.declared.fault.TextFaultKind.{TextFaultKind}
use Rattle.protox_text_format.specs.declared.fault.TextFaultKind.TheVariants.{NoMark, NoValue, NoWord, TooDeep}
use Rattle.protox_text_format.specs.declared.item.Item.{Item}
use Rattle.protox_text_format.specs.declared.item.Piece.{Piece}
use Rattle.protox_text_format.specs.declared.reading.Frame.{Frame}
use Rattle.protox_text_format.specs.declared.reading.Place.{Place}
use Rattle.protox_text_format.specs.declared.reading.Stop.{Stop}
use Rattle.protox_text_format.specs.declared.reading.Stop.TheVariants as stop
use Rattle.protox_text_format.specs.declared.reading.Turn.{Turn}
use Rattle.protox_text_format.specs.declared.reading.Turn.TheVariants as turn
use Rattle.protox_text_format.specs.inner.Marks.{NotFirst}

-- the marks that begin and end a message, in angle brackets or in braces
abbrev pub open_of : Bool → ℕ
open_of true = 60
open_of false = 123

abbrev pub close_of : Bool → ℕ
close_of true = 62
close_of false = 125

-- a message that is open
abbrev pub frame : Bool → Bool → Frame
frame angle in_list = record { angle = angle; in_list = in_list }

-- What is left is read to its end, in these steps. The turn says what is to come next, and the frames
-- are the messages that are open, the innermost first. There are at most so many.
pub data Reads (levels : ℕ) : Turn → List Frame → List Piece → List Step → Type 0 where
  AtEnd : Reads levels turn.Field [] [] []
  AtName : (frames : List Frame) (pieces : List Piece) (has : Bool) (name colon more : List Piece) (rest : List Step) → pieces ≡ name ++ (colon ++ more) → IsName name → IsColon has colon → Reads levels turn.Held frames more rest → Reads levels turn.Field frames pieces (Name name has ∷ rest)
  AtClose : (angle in_list : Bool) (frames : List Frame) (mark : Piece) (more : List Piece) (rest : List Step) → Stands (close_of angle) mark → Reads levels (turn.After in_list) frames more rest → Reads levels turn.Field (frame angle in_list ∷ frames) (mark ∷ more) (Close ∷ rest)
  AtList : (frames : List Frame) (mark : Piece) (more : List Piece) (rest : List Step) → Stands 91 mark → Reads levels turn.First frames more rest → Reads levels turn.Held frames (mark ∷ more) (OpenList ∷ rest)
  AtOne : (frames : List Frame) (more : List Piece) (rest : List Step) → Reads levels (turn.Value false) frames more rest → Reads levels turn.Held frames more rest
  AtNone : (frames : List Frame) (mark : Piece) (more : List Piece) (rest : List Step) → Stands 93 mark → Reads levels (turn.After false) frames more rest → Reads levels turn.First frames (mark ∷ more) (CloseList ∷ rest)
  AtFirst : (frames : List Frame) (more : List Piece) (rest : List Step) → Reads levels (turn.Value true) frames more rest → Reads levels turn.First frames more rest
  AtScalar : (in_list : Bool) (frames : List Frame) (pieces value more : List Piece) (rest : List Step) → pieces ≡ value ++ more → IsScalar value → Reads levels (turn.After in_list) frames more rest → Reads levels (turn.Value in_list) frames pieces (Scalar value ∷ rest)
  AtOpen : (angle in_list : Bool) (frames : List Frame) (mark : Piece) (more : List Piece) (rest : List Step) → length frames < levels → Stands (open_of angle) mark → Reads levels turn.Field (frame angle in_list ∷ frames) more rest → Reads levels (turn.Value in_list) frames (mark ∷ more) (Open ∷ rest)
  AtMark : (frames : List Frame) (mark : Piece) (more : List Piece) (rest : List Step) → Stands 59 mark ⊎ Stands 44 mark → Reads levels turn.Field frames more rest → Reads levels (turn.After false) frames (mark ∷ more) rest
  AtNoMark : (frames : List Frame) (more : List Piece) (rest : List Step) → Reads levels turn.Field frames more rest → Reads levels (turn.After false) frames more rest
  AtComma : (frames : List Frame) (mark : Piece) (more : List Piece) (rest : List Step) → Stands 44 mark → Reads levels (turn.Value true) frames more rest → Reads levels (turn.After true) frames (mark ∷ more) rest
  AtLast : (frames : List Frame) (mark : Piece) (more : List Piece) (rest : List Step) → Stands 93 mark → Reads levels (turn.After false) frames more rest → Reads levels (turn.After true) frames (mark ∷ more) (CloseList ∷ rest)

-- ---- other ends of a text

-- Both are at their end, or go on with one piece.
pub data Same : List Piece → List Piece → Type 0 where
  BothEnd : Same [] []
  BothGoOn : (piece : Piece) (left more : List Piece) → Same (piece ∷ left) (piece ∷ more)

-- The other one may also go on with a number.
pub data Follows : List Piece → List Piece → Type 0 where
  AsLeft : (left more : List Piece) → Same left more → Follows left more
  ByNumber : (piece : Piece) (left more : List Piece) → IsNumber piece → Follows left (piece ∷ more)

-- ---- a reader's place

-- what is to come next, the messages that are open, the pieces that are left, and the steps so far
pub record Spot : Type 0 where
  pub turn : Turn
  pub frames : List Frame
  pub left : List Piece
  pub steps : List Step

-- the place, from the items that are the steps
abbrev pub place : Turn → List Frame → List Piece → List Item → Spot
place turn frames left items = record { turn = turn; frames = frames; left = left; steps = map seen items }

-- the same from the frames in the order in which they were opened
abbrev pub spot : Turn → List Frame → List Piece → List Item → Spot
spot turn frames left items = place turn (reverse frames) left items

-- The reader came from here to there. Behind what it took, the same can be read from both places.
-- (Back from here: if what stands there goes on as what is left, or with a number.)
pub record Goes (here there : Spot) : Type 0 where
  pub taken : List Piece
  pub added : List Step
  pub cut : here.left ≡ taken ++ there.left
  pub steps : there.steps ≡ here.steps ++ added
  pub deep : length here.frames ≤ 100 → length there.frames ≤ 100
  pub on : (levels : ℕ) → 100 ≤ levels → (more : List Piece) (rest : List Step) → Reads levels there.turn there.frames more rest → Reads levels here.turn here.frames (taken ++ more) (added ++ rest)
  pub back : (more : List Piece) (all : List Step) → Follows there.left more → Reads 100 here.turn here.frames (taken ++ more) all → (rest : List Step) × (all ≡ added ++ rest) × Reads 100 there.turn there.frames more rest

-- 1 where the next step may take no piece
abbrev pub rank : Turn → ℕ
rank turn.Field = 0
rank turn.Held = 1
rank turn.First = 1
rank (turn.Value in_list) = 0
rank (turn.After in_list) = 1

-- what falls with each step
abbrev pub weight : Turn → List Piece → ℕ
weight turn left = 2 * length left + rank turn

-- Reading goes on by a step, which takes a piece or comes nearer to one.
pub record Advances (here there : Spot) : Type 0 where
  pub goes : Goes here there
  pub less : weight there.turn there.left < weight here.turn here.left

-- A colon stands in front of the others, or none does.
pub record ColonThen (pieces : List Piece) (has : Bool) (more : List Piece) : Type 0 where
  pub colon : List Piece
  pub cut : pieces ≡ colon ++ more
  pub is : IsColon has colon
  pub none : has ≡ false → NotFirst (Stands 58) more

-- Something is still to be read.
abbrev pub GoesOn : List Frame → List Piece → Type 0
GoesOn frames left = frames ≡ [] → left ≡ [] → ⊥

-- All is read.
pub record IsOver (next : Turn) (frames : List Frame) (left : List Piece) : Type 0 where
  pub between : next ≡ turn.Field
  pub closed : frames ≡ []
  pub end : left ≡ []

-- ---- where no message goes on

-- What is read from here goes on behind the pieces with every piece of which P holds.
abbrev pub CanGoOn : Spot → List Piece → (Piece → Type 0) → Type 0
CanGoOn here before P = (piece : Piece) → P piece → (more : List Piece) × (steps : List Step) × Reads 100 here.turn here.frames (before ++ piece ∷ more) steps

-- It goes on with none.
abbrev pub CanNotGoOn : Spot → List Piece → (Piece → Type 0) → Type 0
CanNotGoOn here before P = (piece : Piece) → P piece → (more : List Piece) (steps : List Step) → Reads 100 here.turn here.frames (before ++ piece ∷ more) steps → ⊥

-- What the kind tells is true.
abbrev pub Tells : TextFaultKind → Spot → List Piece → List Piece → Type 0
Tells NoWord here before wrong = CanGoOn here before IsWord × CanNotGoOn here before IsNumber
Tells (NoMark mark) here before wrong = CanGoOn here before (Stands mark)
Tells NoValue here before wrong = CanGoOn here before IsNumber
Tells TooDeep here before wrong = CanGoOn here before IsNumber × ((more : List Piece) × (steps : List Step) × Reads 101 here.turn here.frames (before ++ (take 1 wrong ++ more)) steps)

-- What is left is wrong from the first of these pieces on.
pub record Stuck (here : Spot) (wrong : List Piece) (kind : TextFaultKind) : Type 0 where
  pub before : List Piece
  pub cut : here.left ≡ before ++ wrong
  pub stops : (more : List Piece) (steps : List Step) → Same wrong more → Reads 100 here.turn here.frames (before ++ more) steps → ⊥
  pub tells : length here.frames ≤ 100 → Tells kind here before wrong

-- P of what is wrong, unless memory ran out.
abbrev pub IfWrong : Stop → (List Piece → TextFaultKind → Type 0) → Type 0
IfWrong stop.OutOfMemory P = ⊤
IfWrong (stop.Wrong wrong kind) P = P wrong.now kind

-- ---- what a reader answers

-- An answer leads on from here.
abbrev pub LeadsOn : Spot → List Frame → List Item → Result Place Stop → Type 0
LeadsOn here frames items answer = IfOk answer (λ next. Advances here (place next.turn frames next.left.now items))

-- An answer that is none tells what is wrong here.
abbrev pub StopsFor : Spot → Result Place Stop → Type 0
StopsFor here answer = IfErr answer (λ stop. IfWrong stop (Stuck here))
