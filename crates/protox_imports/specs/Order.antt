-- The order in which imports come first, and cycles of imports.
use Rattle.std.specs.Prelude.{◌≡◌, ◌≢◌, ◌<◌, ◌+◌, ◌-◌, ℕ, List, Some, slice_get, take, length, Contains, All, AllPairs}

-- The order has the number of each file once, and each file stands behind all that it imports.
pub record IsInOrder (imports : ℕ → ℕ → Type 0) (count : ℕ) (order : List ℕ) : Type 0 where
  pub all : (f : ℕ) → f < count → Contains order f
  pub within : All (λ f. f < count) order
  pub once : AllPairs (λ f g. f ≢ g) order
  pub behind : (place f g : ℕ) → slice_get order place ≡ Some f → imports f g
      → Contains (take place order) g

-- There is at least one file; each imports the next, and the last imports the first.
pub record IsCycle (imports : ℕ → ℕ → Type 0) (files : List ℕ) : Type 0 where
  pub some : 0 < length files
  pub next : (k f g : ℕ) → slice_get files k ≡ Some f → slice_get files (k + 1) ≡ Some g
      → imports f g
  pub around : (f g : ℕ) → slice_get files (length files - 1) ≡ Some f
      → slice_get files 0 ≡ Some g → imports f g
