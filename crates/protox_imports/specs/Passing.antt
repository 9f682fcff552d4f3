-- What each file passes on, by a row of marks for each file.
use Rattle.std.specs.Prelude.{◌≡◌, ◌↔◌, ◌<◌, ℕ, Bool, true, List, Option, Some, None, length, slice_get, slice_index_or}
use Rattle.protox_imports.specs.Rows.{PassesOnIn}
use Rattle.protox_imports.specs.Sees.{Passes}
use Rattle.protox_imports.specs.declared.row.FileImports.{FileImports}

-- By its row, file g passes on file h. With no row it passes on itself alone.
abbrev pub PassedBy : Option (List Bool) → ℕ → ℕ → Type 0
PassedBy None g h = g ≡ h
PassedBy (Some marks) g h = slice_get marks h ≡ Some true

-- By the rows of all files, file g passes on file h.
abbrev pub PassedIn : List (Option (List Bool)) → ℕ → ℕ → Type 0
PassedIn rows g = PassedBy (slice_index_or rows g None) g

-- The row marks what file g passes on.
pub record IsRow (files : List FileImports) (g : ℕ) (row : Option (List Bool)) : Type 0 where
  pub as_many : (marks : List Bool) → row ≡ Some marks → length marks ≡ length files
  pub passed : (h : ℕ) → PassedBy row g h ↔ Passes (PassesOnIn files) g h

-- These are the rows of all files.
pub record AreRows (files : List FileImports) (rows : List (Option (List Bool))) : Type 0 where
  pub count : length rows ≡ length files
  pub row : (g : ℕ) → g < length files → IsRow files g (slice_index_or rows g None)
