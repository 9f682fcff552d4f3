-- Keys that have numbers.
use Rattle.std.specs.Prelude.{◌≡◌, ◌⊎◌, ℕ, List, Option, Some}
use Rattle.std.specs.List.{slice_get}
use Rattle.protox_name_tree.specs.Slots.{IsInWindow}

-- `number` finds the place of each key of the list, and nothing else. So no key stands there twice.
pub record IsNumbering {K : Type 0} (number : K → Option ℕ) (keys : List K) : Type 0 where
  pub key_at : (key : K) (n : ℕ) → number key ≡ Some n → slice_get keys n ≡ Some key
  pub number_of : (key : K) (n : ℕ) → slice_get keys n ≡ Some key → number key ≡ Some n

-- Keys of which no two are equal. Each number is found in the window of its key, or among those that
-- are kept elsewhere.
pub record IsIndexed {K : Type 0} (mixed : K → ℕ) (slots : List (Option ℕ)) (elsewhere : K → Option ℕ) (keys : List K) : Type 0 where
  pub once : (m n : ℕ) (key : K) → slice_get keys m ≡ Some key → slice_get keys n ≡ Some key → m ≡ n
  pub found : (n : ℕ) (key : K) → slice_get keys n ≡ Some key → IsInWindow slots (mixed key) n ⊎ (elsewhere key ≡ Some n)
  pub kept : (n : ℕ) (key : K) → elsewhere key ≡ Some n → slice_get keys n ≡ Some key
