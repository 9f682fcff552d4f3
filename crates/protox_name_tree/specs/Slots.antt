-- Slots that hold numbers.
use Rattle.std.specs.Prelude.{◌≡◌, ◌<◌, ◌+◌, ◌-◌, ◌*◌, ◌/◌, ◌%◌, ◌^◌, ℕ, zero, suc, List, ◌∷◌, Option, Some, None, fold, length, min, slice_index_or}

-- the number in a slot: none is written as zero, and a number as one more than it is
abbrev pub number_in : ℕ → Option ℕ
number_in zero = None
number_in (suc n) = Some n

-- what the slot at an index holds
abbrev pub held : List (Option ℕ) → ℕ → Option ℕ
held slots index = slice_index_or slots index None

-- numbers that are close to one another are scattered over all below 2 to the 32nd
unfoldable pub scattered : ℕ → ℕ
scattered mixed = ((mixed * 11400714819323198485) % 2 ^ 64) / 4294967296

-- Where the window begins of what is mixed to a number, among so many slots: as far along them as the
-- scattered number stands among all below 2 to the 32nd.
unfoldable pub window_start : ℕ → ℕ → ℕ
window_start count mixed = (scattered mixed * min (count - 8) 4294967295) / 4294967296

-- There is a slot, and it holds nothing.
pub record IsFree (slots : List (Option ℕ)) (index : ℕ) : Type 0 where
  pub there : index < length slots
  pub nothing : held slots index ≡ None

-- The first slots of a window are not free.
abbrev pub AreTaken : List (Option ℕ) → ℕ → ℕ → Type 0
AreTaken slots mixed count = (step : ℕ) → step < count → IsFree slots (window_start (length slots) mixed + step) → ⊥

-- One of the eight slots of a window holds the number, and none before it is free.
pub record IsInWindow (slots : List (Option ℕ)) (mixed n : ℕ) : Type 0 where
  pub step : ℕ
  pub near : step < 8
  pub holds : held slots (window_start (length slots) mixed + step) ≡ Some n
  pub taken : AreTaken slots mixed step

-- ---- how texts and keys are mixed

-- a number below 2 to the 32nd, from one so far and what comes next
abbrev pub mixed : ℕ → ℕ → ℕ
mixed so_far next = (so_far * 2654435769 + next) % 4294967296

-- four bytes as one number
abbrev pub word : ℕ → ℕ → ℕ → ℕ → ℕ
word a b c d = a + b * 256 + (c + d * 256) * 65536

-- a number from one so far and a text: four bytes at a time, and what is left one by one
abbrev pub mixed_on : ℕ → List ℕ → ℕ
mixed_on so_far (a ∷ b ∷ c ∷ d ∷ more) = mixed_on (mixed so_far (word a b c d)) more
mixed_on so_far left = fold mixed so_far left

abbrev pub mixed_text : List ℕ → ℕ
mixed_text text = mixed_on 5381 text

-- a number below 2 to the 49th, from both parts of a key
abbrev pub mixed_key : Option ℕ × ℕ → ℕ
mixed_key (None, name) = name % 4294967296
mixed_key (Some place, name) = (place % 4294967296) * 65537 + name % 4294967296 + 1
