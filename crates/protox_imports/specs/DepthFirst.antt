-- The order of a walk through all files: each file is visited as they are given, and before it gets
-- its place all that it imports is visited, in the order of its imports.
use Rattle.std.specs.Prelude.{ℕ, List, [], ◌∷◌, ◌++◌, map, Option, Some, None, length, Contains, ⊤}
use Rattle.std.specs.List.{range_with_len}
use Rattle.protox_imports.specs.Rows.{named_of}
use Rattle.protox_imports.specs.declared.row.FileImports.{FileImports}
use Rattle.protox_imports.specs.declared.sorted.Order.{Order}
use Rattle.protox_imports.specs.declared.sorted.Order.TheVariants.{Sorted, Cycle}

-- `Visits rows placed files after`: these files are visited, one after the other. Before that
-- `placed` have their place, in this order, and then `after` have.
pub data Visits (rows : List FileImports) : List ℕ → List (Option ℕ) → List ℕ → Type 0 where
  -- No file is left.
  Ends : (placed : List ℕ) → Visits rows placed [] placed
  -- No file has the name of an import.
  Missing : (placed after : List ℕ) (more : List (Option ℕ)) → Visits rows placed more after
      → Visits rows placed (None ∷ more) after
  -- A file that has its place is passed by.
  Passes : (placed after : List ℕ) (f : ℕ) (more : List (Option ℕ)) → Contains placed f
      → Visits rows placed more after → Visits rows placed (Some f ∷ more) after
  -- Another one gets its place behind what it imports.
  Places : (placed within after : List ℕ) (f : ℕ) (more : List (Option ℕ))
      → (Contains placed f → ⊥) → Visits rows placed (named_of rows f) within
      → Visits rows (within ++ f ∷ []) more after → Visits rows placed (Some f ∷ more) after

-- the files, as they are given
abbrev pub all_files : ℕ → List (Option ℕ)
all_files count = map Some (range_with_len 0 count)

-- The order is the one in which the files get their place.
abbrev pub IsDepthFirst : List FileImports → Order → Type 0
IsDepthFirst rows (Sorted files) = Visits rows [] (all_files (length rows)) files.items
IsDepthFirst rows (Cycle files) = ⊤
