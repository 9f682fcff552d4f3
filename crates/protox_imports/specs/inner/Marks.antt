-- Files that are marked one by one, and a list of those whose public imports are still to be
-- followed.
use Rattle.std.specs.Prelude.{◌≡◌, ℕ, ◌+◌, ◌⊎◌, Bool, true, not, List, Some, slice_get, length, Contains, count_by}
use Rattle.protox_imports.specs.Rows.{ImportsIn, PassesOnIn}
use Rattle.protox_imports.specs.Sees.{Passes}
use Rattle.protox_imports.specs.declared.row.FileImports.{FileImports}

-- The file is marked.
abbrev pub IsMarked : List Bool → ℕ → Type 0
IsMarked marks h = slice_get marks h ≡ Some true

-- how many files are not marked
abbrev pub unmarked : List Bool → ℕ
unmarked marks = count_by not marks

-- The wanted files were marked, and each that was not marked before was put on the list.
pub record Marks (before : List Bool) (from : List ℕ) (wanted : ℕ → Type 0) (marks : List Bool)
    (list : List ℕ) : Type 0 where
  pub count : length marks ≡ length before
  pub kept : (h : ℕ) → IsMarked before h → IsMarked marks h
  pub marked : (h : ℕ) → wanted h → IsMarked marks h
  pub only : (h : ℕ) → IsMarked marks h → IsMarked before h ⊎ wanted h
  pub new_listed : (h : ℕ) → IsMarked marks h → IsMarked before h ⊎ Contains list h
  pub stays : (h : ℕ) → Contains from h → Contains list h
  pub listed : (h : ℕ) → Contains list h → Contains from h ⊎ IsMarked marks h
  pub size : length list + unmarked marks ≡ length from + unmarked before

-- What a file sees but for itself.
abbrev pub Reaches : List FileImports → ℕ → ℕ → Type 0
Reaches rows f h = (g : ℕ) × ImportsIn rows f g × Passes (PassesOnIn rows) g h

-- What is known while files are still on the list.
pub record IsSeeing (rows : List FileImports) (f : ℕ) (marks : List Bool) (list : List ℕ)
    : Type 0 where
  pub count : length marks ≡ length rows
  pub sound : (h : ℕ) → IsMarked marks h → Reaches rows f h
  pub start : (g : ℕ) → ImportsIn rows f g → IsMarked marks g
  pub closed : (g h : ℕ) → IsMarked marks g → PassesOnIn rows g h → Contains list g ⊎ IsMarked marks h
  pub listed : (g : ℕ) → Contains list g → IsMarked marks g
