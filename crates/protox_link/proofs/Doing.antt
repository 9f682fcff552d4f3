-- One file of a list after another.
use Rattle.std.proofs.Common.{◌≡◌, ◌<◌, ◌≤◌, ◌+◌, ℕ, Bool, List, Option, [], ◌∷◌, ◌++◌, add-one, append-nil, append_assoc, arith, drop, get_or, length, take, OnOk, Result, sym, ap, subst, ◌∙◌}
use Rattle.std.proofs.Math.ListN.{set}
use Rattle.std.proofs.Math.Seq.{take-suc-set}
use Rattle.std.proofs.lemmas.Grind.{drop_more_same}
use Rattle.std.proofs.lemmas.List.{drop-set-lt, drop_all, drop_more, length-set, take_all}
use Rattle.std.proofs.lemmas.Result.{on_ok_weaker}
use Rattle.protox_descriptor.specs.declared.descriptor.FileDescriptorProto.{FileDescriptorProto}
use Rattle.protox_imports.specs.Rows.{named_of, rows_of}
use Rattle.protox_link.proofs.Standing.{none_of_first}
use Rattle.protox_link.specs.Files.{AreDone, AreFaults, AreLinked, IsChecked, IsDone, IsToldOf, NoFile, NoMore, OneFile, OneMore, faults_in, linked_in}
use Rattle.protox_link.specs.Seen.{IsSeenBy}
use Rattle.protox_link_checks.specs.Extensions.{extended_faults}
use Rattle.protox_link_checks.specs.File.{file_faults}
use Rattle.protox_link_fault.specs.declared.LinkFault.{LinkFault}
use Rattle.protox_symbols.specs.Symbols.{Table}
use Rattle.protox_symbols.specs.Things.{table_of}

-- what is wrong with a file, and then with its extensions
pub both_told : (all : List FileDescriptorProto) (table : Table) (sees packages : List Bool) (n : ℕ) (imports : List (Option ℕ)) (file : FileDescriptorProto) (before between after : List LinkFault)
    → between ≡ before ++ file_faults table sees packages n imports file → after ≡ between ++ extended_faults all table n sees packages file
    → after ≡ before ++ (file_faults table sees packages n imports file ++ extended_faults all table n sees packages file)
both_told all table sees packages n imports file before between after first second =
    second ∙ ap (λ faults. faults ++ extended_faults all table n sees packages file) first ∙ append_assoc before (file_faults table sees packages n imports file) (extended_faults all table n sees packages file)

-- a file that was only checked
pub told_one : {T E : Type 0} (r : Result T E) (all : List FileDescriptorProto) (table : Table) (n : ℕ) (sees packages : List Bool) (imports : List (Option ℕ)) (file : FileDescriptorProto) (before after : List LinkFault)
    → table ≡ table_of all → IsSeenBy all n sees packages → imports ≡ named_of (rows_of all) n
    → OnOk r (after ≡ before ++ (file_faults table sees packages n imports file ++ extended_faults all table n sees packages file))
    → OnOk r (IsToldOf all n file before after)
told_one r all table n sees packages imports file before after is seen named =
    on_ok_weaker r (λ told. record {
      sees = sees;
      packages = packages;
      seen = seen;
      faults = told
          ∙ ap (λ t. before ++ (file_faults t sees packages n imports file ++ extended_faults all t n sees packages file)) is
          ∙ ap (λ i. before ++ (file_faults (table_of all) sees packages n i file ++ extended_faults all (table_of all) n sees packages file)) named;
    })

-- a file that was checked, and linked if nothing is wrong
pub done : {T E : Type 0} (r : Result T E) (all : List FileDescriptorProto) (table : Table) (n : ℕ) (sees packages : List Bool) (imports : List (Option ℕ)) (file made : FileDescriptorProto) (before after : List LinkFault)
    → table ≡ table_of all → IsSeenBy all n sees packages → imports ≡ named_of (rows_of all) n
    → OnOk r (IsChecked all table sees packages n imports file made before after)
    → OnOk r (IsDone all n file made before after)
done r all table n sees packages imports file made before after is seen named =
    on_ok_weaker r (λ checked.
    let in_all : IsChecked all (table_of all) sees packages n (named_of (rows_of all) n) file made before after =
    subst (λ i. IsChecked all (table_of all) sees packages n i file made before after) named
    (subst (λ t. IsChecked all t sees packages n imports file made before after) is checked) in
    record {
      sees = sees;
      packages = packages;
      seen = seen;
      faults = in_all.faults;
      linked = in_all.linked;
    })

-- what the names of a file lend to a view of the same marks
pub seen_in : (all : List FileDescriptorProto) (n : ℕ) (sees packages sees' packages' : List Bool) → sees' ≡ sees → packages' ≡ packages → IsSeenBy all n sees packages → IsSeenBy all n sees' packages'
seen_in all n sees packages sees' packages' one other seen =
    subst (λ s. IsSeenBy all n s packages') (sym one) (subst (λ p. IsSeenBy all n sees p) (sym other) seen)

-- ---- the files so far

module _ (all : List FileDescriptorProto) where
  -- The files before the number n are done: whatever is wrong with those that are left stands behind
  -- the faults so far, and what becomes of them behind the files so far.
  pub record AreDoneTo (n : ℕ) (files : List FileDescriptorProto) (faults : List LinkFault) : Type 0 where
    pub as_many : length files ≡ length all
    pub left : drop n files ≡ drop n all
    pub told : (rest : List LinkFault) → AreFaults all n (drop n all) rest → AreFaults all 0 all (faults ++ rest)
    pub linked : faults ≡ [] → (more : List FileDescriptorProto) → AreLinked all n (drop n all) more → AreLinked all 0 all (take n files ++ more)

  pub one_done : (n : ℕ) (files : List FileDescriptorProto) (file made : FileDescriptorProto) (before after : List LinkFault) → n < length files → file ≡ get_or files n file
      → AreDoneTo n files before → IsDone all n file made before after → AreDoneTo (n + 1) (set files n made) after
  one_done n files file made before after below is so_far one =
      let first : drop n all ≡ file ∷ drop (n + 1) all =
      sym so_far.left ∙ drop_more files n file below ∙ ap (λ f. f ∷ drop (n + 1) files) (sym is)
      ∙ ap (λ rest. file ∷ rest) (drop_more_same files all n so_far.left) in
      record {
        as_many = length-set files n made ∙ so_far.as_many;
        left = drop-set-lt (n + 1) files n made (omega arith) ∙ drop_more_same files all n so_far.left;
        told = λ rest h.
            subst (AreFaults all 0 all) (sym (ap (λ faults. faults ++ rest) one.faults ∙ append_assoc before (faults_in all n one.sees one.packages file) rest))
            (so_far.told (faults_in all n one.sees one.packages file ++ rest)
            (subst (λ left. AreFaults all n left (faults_in all n one.sees one.packages file ++ rest)) (sym first)
            (OneMore n file (drop (n + 1) all) one.sees one.packages rest one.seen h)));
        linked = λ none more h.
            let same : take (n + 1) (set files n made) ++ more ≡ take n files ++ linked_in all one.sees one.packages file ∷ more =
            ap (λ front. front ++ more) (ap (λ m. take m (set files n made)) (add-one n) ∙ take-suc-set files n made below)
            ∙ append_assoc (take n files) (made ∷ []) more
            ∙ ap (λ f. take n files ++ f ∷ more) (one.linked none) in
            subst (AreLinked all 0 all) (sym same)
            (so_far.linked (none_of_first before _ (sym one.faults ∙ none)) (linked_in all one.sees one.packages file ∷ more)
            (subst (λ left. AreLinked all n left (linked_in all one.sees one.packages file ∷ more)) (sym first)
            (OneFile n file (drop (n + 1) all) one.sees one.packages more one.seen h)));
      }

  -- ---- files that are only checked

  -- Whatever is wrong with the files from the number n on stands behind the faults so far.
  abbrev pub AreToldTo : ℕ → List LinkFault → Type 0
  AreToldTo n faults = (rest : List LinkFault) → AreFaults all n (drop n all) rest → AreFaults all 0 all (faults ++ rest)

  pub one_told : (n : ℕ) (file : FileDescriptorProto) (before after : List LinkFault) → n < length all → file ≡ get_or all n file
      → AreToldTo n before → IsToldOf all n file before after → AreToldTo (n + 1) after
  one_told n file before after below is so_far one rest h =
      let first : drop n all ≡ file ∷ drop (n + 1) all = drop_more all n file below ∙ ap (λ f. f ∷ drop (n + 1) all) (sym is) in
      subst (AreFaults all 0 all) (sym (ap (λ faults. faults ++ rest) one.faults ∙ append_assoc before (faults_in all n one.sees one.packages file) rest))
      (so_far (faults_in all n one.sees one.packages file ++ rest)
      (subst (λ left. AreFaults all n left (faults_in all n one.sees one.packages file ++ rest)) (sym first)
      (OneMore n file (drop (n + 1) all) one.sees one.packages rest one.seen h)))

  pub all_told : (n : ℕ) (faults : List LinkFault) → length all ≤ n → AreToldTo n faults → AreFaults all 0 all faults
  all_told n faults end so_far =
      subst (AreFaults all 0 all) (append-nil faults)
      (so_far [] (subst (λ left. AreFaults all n left []) (sym (drop_all n all end)) (NoMore n)))

  pub all_done : (n : ℕ) (files : List FileDescriptorProto) (faults : List LinkFault) → length files ≤ n → AreDoneTo n files faults → AreDone all files faults
  all_done n files faults end so_far =
      let none : drop n all ≡ [] = drop_all n all (omega (arith, end, so_far.as_many)) in
      record {
        told =
            subst (AreFaults all 0 all) (append-nil faults)
            (so_far.told [] (subst (λ left. AreFaults all n left []) (sym none) (NoMore n)));
        linked = λ right.
            subst (AreLinked all 0 all) (append-nil (take n files) ∙ take_all n files end)
            (so_far.linked right [] (subst (λ left. AreLinked all n left []) (sym none) (NoFile n)));
      }
