-- Imports that nothing of a file uses.
use Rattle.std.specs.Prelude.{◌≡◌, ℕ, ◌==◌, pos, Bool, false, not, ◌&&◌, ◌||◌, List, [], length, filter, Option, slice_get, MatchOption}
use Rattle.std.specs.List.{flat_map, list_any, range_with_len}
use Rattle.std.specs.Option.{option_and_then, option_map_or}
use Rattle.std.specs.Ordering.{int_eq}
use Rattle.protox_descriptor.specs.declared.descriptor.FileDescriptorProto.{FileDescriptorProto}
use Rattle.protox_imports.specs.Names.{number_of}
use Rattle.protox_imports.specs.Rows.{rows_of}
use Rattle.protox_link.specs.Seen.{IsSeenBy}
use Rattle.protox_name_tree.specs.Tree.{kind_at}
use Rattle.protox_symbols.specs.Things.{table_of}
use Rattle.protox_usage.specs.First.{IsOrderOf, file_of, first_in_package}
use Rattle.protox_usage.specs.Lookups.{lookups_in_file, may_use_all}
use Rattle.protox_usage.specs.Met.{met}
use Rattle.protox_views.specs.Views.{seen}

-- The import of a file with this index is public.
abbrev pub is_public : FileDescriptorProto → ℕ → Bool
is_public file index = list_any (λ «public». int_eq «public» (pos index)) file.public_dependency

-- The file with this number has public imports.
abbrev pub has_public : List FileDescriptorProto → ℕ → Bool
has_public files n = option_map_or (λ file. not (length file.public_dependency == 0)) (slice_get files n) false

-- the number of the file that an import of a file names: the first one with that name
abbrev pub file_named : List FileDescriptorProto → FileDescriptorProto → ℕ → Option ℕ
file_named files file index = option_and_then (number_of files) (slice_get file.dependency index)

-- In this order imports come first, and a file sees what `sees` and `packages` mark.
module _ (files : List FileDescriptorProto) (order : List ℕ) (sees packages : List Bool) where
  -- what the searches for the names of a file come upon
  abbrev pub met_in_file : FileDescriptorProto → List ℕ
  met_in_file file =
      flat_map (met (kind_at (table_of files).names) (seen (table_of files) sees packages)) (lookups_in_file file)

  -- The number is one of the file with this other number.
  abbrev pub is_of_file : ℕ → ℕ → Bool
  is_of_file n m =
      option_map_or (λ file. file == n) (file_of (table_of files) (first_in_package files order) m) false

  -- The file uses the one with this number: a search comes upon something of it, or may.
  abbrev pub uses_file : FileDescriptorProto → ℕ → Bool
  uses_file file n = may_use_all file || list_any (is_of_file n) (met_in_file file)

  -- It isn't asked of a public import, nor of a file that has public imports itself.
  abbrev pub is_unused : FileDescriptorProto → ℕ → Bool
  is_unused file index =
      option_map_or (λ n. not (is_public file index || has_public files n) && not (uses_file file n))
      (file_named files file index) false

  -- the indices of the imports that a file doesn't use
  abbrev pub unused_imports : FileDescriptorProto → List ℕ
  unused_imports file = filter (is_unused file) (range_with_len 0 (length file.dependency))

-- These are the indices of the imports that the file with this number doesn't use.
pub record AreUnusedIn (files : List FileDescriptorProto) (number : ℕ) (file : FileDescriptorProto) (unused : List ℕ) : Type 0 where
  pub order : List ℕ
  pub sees : List Bool
  pub packages : List Bool
  pub in_order : IsOrderOf (rows_of files) order
  pub seen_by : IsSeenBy files number sees packages
  pub are : unused ≡ unused_imports files order sees packages file

-- the same, if there is a file with the number; no imports, if there is none
abbrev pub AreUnused : List FileDescriptorProto → ℕ → List ℕ → Type 0
AreUnused files number unused =
    MatchOption (slice_get files number) (unused ≡ []) (λ file. AreUnusedIn files number file unused)
