-- Marking what files pass on.
use Rattle.std.specs.Prelude.{◌≡◌, ◌⊎◌, ℕ, Bool, List, Option, Some, None, length, slice_index_or}
use Rattle.protox_imports.specs.inner.Marks.{IsMarked}

-- Each row has as many marks.
abbrev pub AreAsLong : List (Option (List Bool)) → ℕ → Type 0
AreAsLong rows count = (g : ℕ) (marks : List Bool) → slice_index_or rows g None ≡ Some marks → length marks ≡ count

-- What is wanted was marked, and nothing else.
pub record Adds (before : List Bool) (wanted : ℕ → Type 0) (after : List Bool) : Type 0 where
  pub count : length after ≡ length before
  pub kept : (h : ℕ) → IsMarked before h → IsMarked after h
  pub added : (h : ℕ) → wanted h → IsMarked after h
  pub only : (h : ℕ) → IsMarked after h → IsMarked before h ⊎ wanted h
