-- A package is seen exactly if a file that is seen is in it, or in one within it.
use Rattle.std.proofs.Common.{◌≡◌, ◌<◌, ◌||◌, ◌&&◌, ℕ, zero, suc, Bool, false, List, [], ◌∷◌, length, map, Option, refl, sym, ap, ◌∙◌}
use Rattle.std.specs.Prelude.{slice_index_or}
use Rattle.protox_marks.proofs.Lemmas.{none_among}
use Rattle.protox_marks.specs.Few.{among}
use Rattle.protox_marks.specs.Marks.{any_marked}
use Rattle.protox_marks.specs.declared.few.FewMarks.{FewMarks}
use Rattle.protox_name_tree.specs.Tree.{Names}
use Rattle.protox_views.specs.FilesOf.{AreFilesOf, is_file_of, is_in_package, seen_packages}
use Rattle.protox_views.specs.Packages.{is_on_the_way, is_package_seen}
use Rattle.protox_views.specs.declared.packages.PackageFiles.{PackageFiles}

-- the mark of a number tells whether one of its files is seen
seen_at : (sees : List Bool) (files : List FewMarks) (n : ℕ) → slice_index_or (map (λ few. any_marked sees (among few)) files) n false ≡ any_marked sees (is_file_of files n)
seen_at sees [] n = sym (none_among sees)
seen_at sees (few ∷ files) zero = refl
seen_at sees (few ∷ files) (suc n) = seen_at sees files n

any_same : (marks : List Bool) (one other : ℕ → Bool) → ((n : ℕ) → one n ≡ other n) → any_marked marks one ≡ any_marked marks other
any_same [] one other same = refl
any_same (mark ∷ marks) one other same =
    ap (λ first. (mark && first) || any_marked marks (λ n. one (suc n))) (same 0)
    ∙ ap (λ more. (mark && other 0) || more) (any_same marks (λ n. one (suc n)) (λ n. other (suc n)) (λ n. same (suc n)))

any_in_package : (names : Names) (packages : List (Option ℕ)) (sees : List Bool) (n : ℕ) → any_marked sees (is_in_package names packages n) ≡ is_package_seen names packages sees n
any_in_package names [] sees n = none_among sees
any_in_package names (whole ∷ packages) [] n = refl
any_in_package names (whole ∷ packages) (seen ∷ sees) n = ap (λ more. (seen && is_on_the_way names n whole) || more) (any_in_package names packages sees n)

pub packages_seen : (names : Names) (packages : List (Option ℕ)) (files : PackageFiles) (sees : List Bool) (n : ℕ) → AreFilesOf names packages files → n < length names.full_names
    → slice_index_or (seen_packages sees files) n false ≡ is_package_seen names packages sees n
packages_seen names packages files sees n are here =
    seen_at sees files.files.items n
    ∙ any_same sees (is_file_of files.files.items n) (is_in_package names packages n) (λ f. are.told n f here)
    ∙ any_in_package names packages sees n
