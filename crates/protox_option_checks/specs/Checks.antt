-- What is wrong with the files of a set.
use Rattle.std.specs.Prelude.{ℕ, ◌+◌, Bool, List, [], ◌∷◌, ◌++◌, Option, Some, None, if◌then◌else◌}
use Rattle.std.specs.List.{flat_map}
use Rattle.protox_descriptor.specs.declared.descriptor.FileDescriptorProto.{FileDescriptorProto}
use Rattle.protox_descriptor.specs.declared.tag.file.TheConstants as file_tag
use Rattle.protox_imports.specs.Rows.{named_of, rows_of}
use Rattle.protox_imports.specs.declared.row.FileImports.{FileImports}
use Rattle.protox_option_checks.specs.Marks.{Marks, is_marked, marks_of}
use Rattle.protox_option_checks.specs.Parts.{declared_faults}
use Rattle.protox_option_checks.specs.declared.fault.CheckFault.{CheckFault}
use Rattle.protox_option_checks.specs.declared.fault.CheckFaultKind.TheVariants.{LiteImport}
use Rattle.protox_symbols.specs.Symbols.{Table}
use Rattle.protox_walk.specs.Declarations.{file_declarations, nth}

-- ---- imports

module _ (lite : List Bool) where
  -- the file of an import, if it is lite
  abbrev pub lite_import : Option ℕ → Option ℕ
  lite_import None = None
  lite_import (Some found) = if is_marked lite found then Some found else None

  abbrev pub or_later : ℕ → Option ℕ → Option (ℕ × ℕ) → Option (ℕ × ℕ)
  or_later n None later = later
  or_later n (Some found) later = Some (n, found)

  -- the index of the first lite one of these imports, and its file; the first of them has the index n
  abbrev pub first_lite_from : ℕ → List (Option ℕ) → Option (ℕ × ℕ)
  first_lite_from n [] = None
  first_lite_from n (import ∷ more) = or_later n (lite_import import) (first_lite_from (n + 1) more)

-- the fault of the first lite import of the file with a number
abbrev pub lite_import_faults : ℕ → Option (ℕ × ℕ) → List CheckFault
lite_import_faults file None = []
lite_import_faults file (Some (n, found)) =
    record { file = file; path = nth [] file_tag.DEPENDENCY n; kind = LiteImport found } ∷ []

-- What isn't lite imports nothing that is.
abbrev pub import_faults : List Bool → ℕ → List (Option ℕ) → List CheckFault
import_faults lite file imports =
    if is_marked lite file then [] else lite_import_faults file (first_lite_from lite 0 imports)

-- ---- files

module _ (set : List FileDescriptorProto) (table : Table) (marks : Marks) where
  -- First what is wrong with its declarations, in their order, and then with its imports.
  abbrev pub file_faults : ℕ → List (Option ℕ) → FileDescriptorProto → List CheckFault
  file_faults number imports file =
      flat_map (declared_faults set table marks number) (file_declarations file) ++ import_faults marks.lite number imports

  -- these files, of which the first has the number n; each row has the imports of a file
  abbrev pub faults_from : List FileImports → ℕ → List FileDescriptorProto → List CheckFault
  faults_from rows n [] = []
  faults_from rows n (file ∷ more) = file_faults n (named_of rows n) file ++ faults_from rows (n + 1) more

-- all files of the set, in their order
abbrev pub check_faults : Table → List FileDescriptorProto → List CheckFault
check_faults table files = faults_from files table (marks_of table files) (rows_of files) 0 files
