-- The walk that puts files in order: which files are on its stack, and which have their place.
use Rattle.std.specs.Prelude.{◌≡◌, ℕ, ◌+◌, ◌*◌, ◌<◌, ◌≤◌, Bool, true, false, List, [], ◌∷◌, Option}
use Rattle.std.specs.Prelude.{Some, slice_get, take, reverse, length, Contains, count_by}
use Rattle.protox_imports.specs.Rows.{named_of, ImportsIn}
use Rattle.protox_imports.specs.DepthFirst.{Visits}
use Rattle.protox_imports.specs.declared.row.FileImports.{FileImports}
use Rattle.protox_imports.specs.declared.walk.State.{State}
use Rattle.protox_imports.specs.declared.walk.State.TheVariants.{New, Open, Placed}
use Rattle.protox_imports.specs.declared.walk.Frame.{Frame}

-- The walk has not come to the file.
abbrev pub IsNew : List State → ℕ → Type 0
IsNew states f = slice_get states f ≡ Some New

-- The file has its place in the order.
abbrev pub IsPlaced : List State → ℕ → Type 0
IsPlaced states f = (p : ℕ) × (slice_get states f ≡ Some (Placed p))

-- The first `n` of these imports have their place.
abbrev pub ArePlaced : List State → List (Option ℕ) → ℕ → Type 0
ArePlaced states named n =
    (k g : ℕ) → k < n → slice_get named k ≡ Some (Some g) → IsPlaced states g

-- The first of these imports that has no place is file `g`, at this index.
pub record IsNext (states : List State) (named : List (Option ℕ)) (index g : ℕ) : Type 0 where
  pub at : slice_get named index ≡ Some (Some g)
  pub passed : ArePlaced states named index
  pub waits : IsPlaced states g → ⊥

abbrev pub is_new : State → Bool
is_new New = true
is_new (Open j) = false
is_new (Placed p) = false

-- how many files the walk has not come to
abbrev pub new_count : List State → ℕ
new_count states = count_by is_new states

-- What is known between two steps. Each file on the stack imports the next one, and what stands in
-- the order stands behind all that it imports.
pub record IsWalk (rows : List FileImports) (states : List State) (stack : List Frame)
    (placed : List ℕ) : Type 0 where
  pub count : length states ≡ length rows
  pub open_at : (j : ℕ) (frame : Frame) → slice_get stack j ≡ Some frame
      → slice_get states frame.file ≡ Some (Open j)
  pub at_open : (f j : ℕ) → slice_get states f ≡ Some (Open j)
      → (frame : Frame) × (slice_get stack j ≡ Some frame) × (frame.file ≡ f)
  pub placed_at : (p f : ℕ) → slice_get placed p ≡ Some f → slice_get states f ≡ Some (Placed p)
  pub at_placed : (f p : ℕ) → slice_get states f ≡ Some (Placed p) → slice_get placed p ≡ Some f
  pub passed : (j : ℕ) (frame : Frame) → slice_get stack j ≡ Some frame
      → ArePlaced states (named_of rows frame.file) frame.next
  pub chain : (j : ℕ) (a b : Frame) → slice_get stack j ≡ Some a → slice_get stack (j + 1) ≡ Some b
      → ImportsIn rows a.file b.file
  pub behind : (p f g : ℕ) → slice_get placed p ≡ Some f → ImportsIn rows f g
      → Contains (take p placed) g

-- The walk came to no fewer files.
abbrev pub Onward : List State → List State → Type 0
Onward states states' = (f : ℕ) → IsNew states' f → IsNew states f

-- What is known of the stack, from its top down, while a file is waited for: each file on it was
-- visited up to an import, which is the file above it.
pub data Waits (rows : List FileImports) (start : List ℕ) (root : ℕ)
    : List Frame → ℕ → List ℕ → Type 0 where
  Bottom : Waits rows start root [] root start
  On : (frame : Frame) (rest : List Frame) (before now : List ℕ) (g : ℕ)
      → Waits rows start root rest frame.file before → (Contains before frame.file → ⊥)
      → Visits rows before (take frame.next (named_of rows frame.file)) now
      → slice_get (named_of rows frame.file) frame.next ≡ Some (Some g)
      → Waits rows start root (frame ∷ rest) g now

-- What is known of the file on top: it was visited up to some import.
pub record Comes (rows : List FileImports) (start : List ℕ) (root : ℕ) (top : Frame)
    (rest : List Frame) (placed : List ℕ) : Type 0 where
  pub before : List ℕ
  pub upto : ℕ
  pub waits : Waits rows start root rest top.file before
  pub new : Contains before top.file → ⊥
  pub within : upto ≤ length (named_of rows top.file)
  pub visits : Visits rows before (take upto (named_of rows top.file)) placed
  pub passed : (k g : ℕ) → top.next ≤ k → k < upto
      → slice_get (named_of rows top.file) k ≡ Some (Some g) → Contains placed g

-- The root is being visited; with no file on the stack, it was.
abbrev pub Orderly : List FileImports → List ℕ → ℕ → List Frame → List ℕ → Type 0
Orderly rows start root [] placed = Visits rows start (Some root ∷ []) placed
Orderly rows start root (top ∷ rest) placed = Comes rows start root top rest placed

-- A step led on: nearer to the end.
pub record Goes (rows : List FileImports) (states states' : List State) (stack stack' : List Frame)
    (placed placed' : List ℕ) : Type 0 where
  pub walk : IsWalk rows states' stack' placed'
  pub onward : Onward states states'
  pub less : 2 * new_count states' + length stack' < 2 * new_count states + length stack
  pub orderly : (start : List ℕ) (root : ℕ) → Orderly rows start root (reverse stack) placed
      → Orderly rows start root (reverse stack') placed'

-- A file was visited, and the stack is empty again.
pub record Visited (rows : List FileImports) (states states' : List State) (root : ℕ)
    (stack : List Frame) (placed placed' : List ℕ) : Type 0 where
  pub walk : IsWalk rows states' [] placed'
  pub ends : stack ≡ []
  pub onward : Onward states states'
  pub came : IsNew states' root → ⊥
  pub visits : Visits rows placed (Some root ∷ []) placed'
