-- The first file in each package, file by file in an order.
use Rattle.std.proofs.Common.{◌≡◌, ◌<◌, ◌≤◌, ◌+◌, ℕ, zero, suc, Bool, false, cond, List, [], ◌∷◌, length, get_or, map, take, Option, Some, None, refl, sym, ap, ◌∙◌, arith}
use Rattle.std.specs.Prelude.{slice_get}
use Rattle.std.specs.List.{find}
use Rattle.std.specs.Option.{option_or}
use Rattle.std.proofs.lemmas.Option.{none-some}
use Rattle.protox_descriptor.specs.declared.descriptor.FileDescriptorProto.{FileDescriptorProto}
use Rattle.protox_link.specs.Seen.{packages_of}
use Rattle.protox_name_tree.specs.Tree.{Names, number_of}
use Rattle.protox_symbols.specs.Things.{table_of}
use Rattle.protox_usage.proofs.Firsts.{found_more, or_none}
use Rattle.protox_usage.specs.First.{AreFirst}
use Rattle.protox_views.specs.FilesOf.{is_in_package}
use Rattle.protox_views.specs.Packages.{is_on_the_way}
use Rattle.protox_walk.specs.Declarations.{text_of}

in_package : (names : Names) (h : FileDescriptorProto → Option ℕ) (files : List FileDescriptorProto) (n x : ℕ) (file : FileDescriptorProto) → slice_get files x ≡ Some file → is_in_package names (map h files) n x ≡ is_on_the_way names n (h file)
in_package names h [] n x file is = absurd (none-some file is)
in_package names h (first ∷ files) n zero file is = ap (λ o. get_way o) is where
  get_way : Option FileDescriptorProto → Bool
  get_way None = false
  get_way (Some f) = is_on_the_way names n (h f)
in_package names h (first ∷ files) n (suc x) file is = in_package names h files n x file is

some-none : {X : Type 0} (x : X) → Some x ≡ None → ⊥
some-none x is = none-some x (sym is)

in_no_package : (names : Names) (h : FileDescriptorProto → Option ℕ) (files : List FileDescriptorProto) (n x : ℕ) → slice_get files x ≡ None → is_in_package names (map h files) n x ≡ false
in_no_package names h [] n x is = refl
in_no_package names h (first ∷ files) n zero is = absurd (some-none first is)
in_no_package names h (first ∷ files) n (suc x) is = in_no_package names h files n x is

module _ (files : List FileDescriptorProto) (order : List ℕ) (i x : ℕ) (first : List (Option ℕ)) where
  abbrev names : Names
  names = (table_of files).names

  abbrev is_in : ℕ → ℕ → Bool
  is_in n = is_in_package names (packages_of (table_of files) files) n

  pub one_file : (file : FileDescriptorProto) (noted : List (Option ℕ)) → i < length order → x ≡ get_or order i x → slice_get files x ≡ Some file
      → AreFirst files (take i order) first → length noted ≡ length first
      → ((n : ℕ) → n < length first → get_or noted n None ≡ option_or (get_or first n None) (cond (is_on_the_way names n (number_of names (text_of file.«package»))) (Some x) None))
      → AreFirst files (take (i + 1) order) noted
  one_file file noted below is there so_far same each = record {
    as_many = same ∙ so_far.as_many;
    told = λ n here.
        each n (omega (arith, here, so_far.as_many))
        ∙ ap (λ o. option_or o (cond (is_on_the_way names n (number_of names (text_of file.«package»))) (Some x) None)) (so_far.told n here)
        ∙ ap (λ b. option_or (find (is_in n) (take i order)) (cond b (Some x) None))
        (sym (in_package names (λ (f : FileDescriptorProto). number_of names (text_of f.«package»)) files n x file there))
        ∙ sym (found_more (is_in n) order i x below is);
  }

  pub no_file : i < length order → x ≡ get_or order i x → slice_get files x ≡ None → AreFirst files (take i order) first → AreFirst files (take (i + 1) order) first
  no_file below is missing so_far = record {
    as_many = so_far.as_many;
    told = λ n here.
        so_far.told n here
        ∙ sym (or_none (find (is_in n) (take i order)))
        ∙ ap (λ b. option_or (find (is_in n) (take i order)) (cond b (Some x) None))
        (sym (in_no_package names (λ (f : FileDescriptorProto). number_of names (text_of f.«package»)) files n x missing))
        ∙ sym (found_more (is_in n) order i x below is);
  }
