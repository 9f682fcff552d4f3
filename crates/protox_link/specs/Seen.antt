-- What each file of a list sees of all that they declare.
use Rattle.std.specs.Prelude.{◌≡◌, ◌<◌, ℕ, Bool, false, List, length, map, Option, slice_index_or}
use Rattle.protox_descriptor.specs.declared.descriptor.FileDescriptorProto.{FileDescriptorProto}
use Rattle.protox_imports.specs.Rows.{rows_of}
use Rattle.protox_imports.specs.Seen.{AreSeen}
use Rattle.protox_name_tree.specs.Tree.{number_of}
use Rattle.protox_symbols.specs.Symbols.{Table}
use Rattle.protox_symbols.specs.Things.{table_of}
use Rattle.protox_views.specs.Packages.{is_package_seen}
use Rattle.protox_walk.specs.Declarations.{text_of}

-- the number of the package of each file
abbrev pub packages_of : Table → List FileDescriptorProto → List (Option ℕ)
packages_of table files = map (λ file. number_of table.names (text_of file.«package»)) files

-- The marks are those of the files that the file with this number sees: itself, what it imports, and
-- what those import publicly, and so on; and of the packages that these files are in.
pub record IsSeenBy (files : List FileDescriptorProto) (number : ℕ) (sees packages : List Bool) : Type 0 where
  pub as_many : length sees ≡ length files
  pub of_files : AreSeen (rows_of files) number sees
  pub of_packages : (n : ℕ) → n < length (table_of files).names.full_names → slice_index_or packages n false ≡ is_package_seen (table_of files).names (packages_of (table_of files) files) sees n
