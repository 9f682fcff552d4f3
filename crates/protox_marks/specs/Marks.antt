-- Marks for numbers, as bits of words.
use Rattle.std.specs.Prelude.{ℕ, suc, ◌/◌, ◌%◌, ◌==◌, ◌&&◌, ◌||◌, Bool, false, List, [], ◌∷◌, map, slice_index_or}
use Rattle.std.specs.Int.{bit_at}
use Rattle.std.specs.List.{range_with_len}

-- whether the bit for a number is set: each word has those of 64 numbers
abbrev pub is_set : List ℕ → ℕ → Bool
is_set words number = bit_at (slice_index_or words (number / 64) 0) (number % 64) == 1

-- for each number below a count, whether its bit is set
abbrev pub marks_of : List ℕ → ℕ → List Bool
marks_of words count = map (is_set words) (range_with_len 0 count)

-- some number that is marked is among those that are told
abbrev pub any_marked : List Bool → (ℕ → Bool) → Bool
any_marked [] among = false
any_marked (marked ∷ more) among = (marked && among 0) || any_marked more (λ n. among (suc n))
