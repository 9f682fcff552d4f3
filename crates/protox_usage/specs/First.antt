-- The file that counts as that of a number of a table.
use Rattle.std.specs.Prelude.{◌≡◌, ◌<◌, ℕ, List, [], Option, None, length, option_map, slice_get, slice_index_or}
use Rattle.std.specs.List.{find}
use Rattle.protox_descriptor.specs.declared.descriptor.FileDescriptorProto.{FileDescriptorProto}
use Rattle.protox_imports.specs.DepthFirst.{Visits, all_files}
use Rattle.protox_imports.specs.Order.{IsCycle}
use Rattle.protox_imports.specs.Rows.{ImportsIn}
use Rattle.protox_imports.specs.declared.row.FileImports.{FileImports}
use Rattle.protox_link.specs.Seen.{packages_of}
use Rattle.protox_name_tree.specs.Tree.{kind_at}
use Rattle.protox_scopes.specs.declared.kind.Kind.{Kind}
use Rattle.protox_scopes.specs.declared.kind.Kind.TheVariants as kind
use Rattle.protox_symbols.specs.Symbols.{Table}
use Rattle.protox_symbols.specs.Things.{table_of}
use Rattle.protox_views.specs.FilesOf.{is_in_package}

-- Files import one another in a circle.
pub record IsCircular (rows : List FileImports) : Type 0 where
  pub circle : List ℕ
  pub closed : IsCycle (ImportsIn rows) circle

-- The order in which the files get their place where imports come first. Where files import one
-- another in a circle, there is none.
pub data IsOrderOf (rows : List FileImports) : List ℕ → Type 0 where
  InOrder : (order : List ℕ) → Visits rows [] (all_files (length rows)) order → IsOrderOf rows order
  InNone : IsCircular rows → IsOrderOf rows []

-- the first file in that order that is in the package with this number, or in one within it
abbrev pub first_in_package : List FileDescriptorProto → List ℕ → ℕ → Option ℕ
first_in_package files order n =
    find (is_in_package (table_of files).names (packages_of (table_of files) files) n) order

-- These are the first files of the packages, by the numbers of the packages.
pub record AreFirst (files : List FileDescriptorProto) (order : List ℕ) (first : List (Option ℕ)) : Type 0 where
  pub as_many : length first ≡ length (table_of files).names.full_names
  pub told : (n : ℕ) → n < length (table_of files).names.full_names → slice_index_or first n None ≡ first_in_package files order n

-- The file of a number is that in which it is declared. That of a package is the first file in it.
module _ (table : Table) (first : ℕ → Option ℕ) where
  abbrev pub file_as : Kind → ℕ → Option ℕ
  file_as kind.Package n = first n
  file_as kind.Message n = option_map (λ thing. thing.file) (slice_get table.things n)
  file_as kind.Enum n = option_map (λ thing. thing.file) (slice_get table.things n)
  file_as kind.Service n = option_map (λ thing. thing.file) (slice_get table.things n)
  file_as kind.Member n = option_map (λ thing. thing.file) (slice_get table.things n)

  abbrev pub file_of : ℕ → Option ℕ
  file_of n = file_as (kind_at table.names n) n
