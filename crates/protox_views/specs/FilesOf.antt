-- The files of each package.
use Rattle.std.specs.Prelude.{◌≡◌, ◌<◌, ℕ, zero, suc, Bool, false, List, [], ◌∷◌, length, map, slice_get, Option}
use Rattle.std.specs.Option.{option_map_or}
use Rattle.protox_marks.specs.Few.{among}
use Rattle.protox_marks.specs.Marks.{any_marked}
use Rattle.protox_marks.specs.declared.few.FewMarks.{FewMarks}
use Rattle.protox_name_tree.specs.Tree.{Names}
use Rattle.protox_views.specs.Packages.{is_on_the_way}
use Rattle.protox_views.specs.declared.packages.PackageFiles.{PackageFiles}

-- The file with this number is in the package with the number n, or in one within it. A file is in
-- none that `packages` doesn't have.
abbrev pub is_in_package : Names → List (Option ℕ) → ℕ → ℕ → Bool
is_in_package names [] n file = false
is_in_package names (whole ∷ packages) n zero = is_on_the_way names n whole
is_in_package names (whole ∷ packages) n (suc file) = is_in_package names packages n file

-- The file with this number is among those that are told for the number n.
abbrev pub is_file_of : List FewMarks → ℕ → ℕ → Bool
is_file_of files n file = option_map_or (λ few. among few file) (slice_get files n) false

-- For each number of the table, these are the files of the package with this number.
pub record AreFilesOf (names : Names) (packages : List (Option ℕ)) (files : PackageFiles) : Type 0 where
  pub as_many : length files.files.items ≡ length names.full_names
  pub told : (n file : ℕ) → n < length names.full_names → is_file_of files.files.items n file ≡ is_in_package names packages n file

-- For each number, whether it is that of a package of a file that is seen, or of a package around
-- it. `sees` tells which files are seen.
abbrev pub seen_packages : List Bool → PackageFiles → List Bool
seen_packages sees files = map (λ few. any_marked sees (among few)) files.files.items
