-- Files with which nothing is wrong are linked one after another.
use Rattle.std.proofs.Common.{◌≡◌, ◌<◌, ◌≤◌, ◌+◌, ℕ, List, [], ◌∷◌, ◌++◌, add-one, append-nil, append_assoc, arith, drop, get_or, length, take, sym, ap, subst, ◌∙◌}
use Rattle.std.proofs.Math.ListN.{set}
use Rattle.std.proofs.Math.Seq.{take-suc-set}
use Rattle.std.proofs.lemmas.Grind.{drop_more_same}
use Rattle.std.proofs.lemmas.List.{drop-set-lt, drop_all, drop_more, length-set, take_all}
use Rattle.protox_descriptor.specs.declared.descriptor.FileDescriptorProto.{FileDescriptorProto}
use Rattle.protox_imports.specs.Rows.{named_of, rows_of}
use Rattle.protox_link.proofs.Seeing.{AreSplit, split}
use Rattle.protox_link.proofs.Standing.{in_table, none_of_first, none_of_second}
use Rattle.protox_link.specs.Files.{AreFaults, AreLinked, IsInTable, IsLinkedAt, NoFile, OneFile, faults_in, linked_in}
use Rattle.protox_link_checks.specs.File.{file_faults}
use Rattle.protox_symbols.specs.Things.{table_of}

module _ (all : List FileDescriptorProto) where
  -- The files before the number n are linked, and nothing is wrong with those that are left.
  pub record AreLinkedTo (n : ℕ) (files : List FileDescriptorProto) : Type 0 where
    pub as_many : length files ≡ length all
    pub left : drop n files ≡ drop n all
    pub right : AreFaults all n (drop n all) []
    pub linked : (more : List FileDescriptorProto) → AreLinked all n (drop n all) more → AreLinked all 0 all (take n files ++ more)

  module _ (n : ℕ) (files : List FileDescriptorProto) (file : FileDescriptorProto) (below : n < length files) (is : file ≡ get_or files n file) (so_far : AreLinkedTo n files) where
    next : drop n all ≡ file ∷ drop (n + 1) all
    next =
        sym so_far.left ∙ drop_more files n file below ∙ ap (λ f. f ∷ drop (n + 1) files) (sym is)
        ∙ ap (λ rest. file ∷ rest) (drop_more_same files all n so_far.left)

    parted : AreSplit all n (file ∷ drop (n + 1) all) []
    parted = split all n (file ∷ drop (n + 1) all) [] (subst (λ left. AreFaults all n left []) next so_far.right)

    pub next_in_table : IsInTable (table_of all) file
    next_in_table =
        let parts = parted in
        let none : faults_in all n parts.0 parts.1 file ≡ [] = none_of_first (faults_in all n parts.0 parts.1 file) parts.2 (sym parts.5) in
        let imports = named_of (rows_of all) n in
        in_table (table_of all) parts.0 parts.1 n imports file
        (none_of_first (file_faults (table_of all) parts.0 parts.1 n imports file) _ none)

    rest_right : AreFaults all (n + 1) (drop (n + 1) all) []
    rest_right =
        let parts = parted in
        subst (AreFaults all (n + 1) (drop (n + 1) all)) (none_of_second (faults_in all n parts.0 parts.1 file) parts.2 (sym parts.5)) parts.4

    pub one_linked : (made : FileDescriptorProto) → IsLinkedAt all n file made → AreLinkedTo (n + 1) (set files n made)
    one_linked made one = record {
      as_many = length-set files n made ∙ so_far.as_many;
      left = drop-set-lt (n + 1) files n made (omega arith) ∙ drop_more_same files all n so_far.left;
      right = rest_right;
      linked = λ more h.
          let same : take (n + 1) (set files n made) ++ more ≡ take n files ++ linked_in all one.sees one.packages file ∷ more =
          ap (λ front. front ++ more) (ap (λ m. take m (set files n made)) (add-one n) ∙ take-suc-set files n made below)
          ∙ append_assoc (take n files) (made ∷ []) more
          ∙ ap (λ f. take n files ++ f ∷ more) one.linked in
          subst (AreLinked all 0 all) (sym same)
          (so_far.linked (linked_in all one.sees one.packages file ∷ more)
          (subst (λ left. AreLinked all n left (linked_in all one.sees one.packages file ∷ more)) (sym next)
          (OneFile n file (drop (n + 1) all) one.sees one.packages more one.seen h)));
    }

  pub all_linked : (n : ℕ) (files : List FileDescriptorProto) → length files ≤ n → AreLinkedTo n files → AreLinked all 0 all files
  all_linked n files end so_far =
      let none : drop n all ≡ [] = drop_all n all (omega (arith, end, so_far.as_many)) in
      subst (AreLinked all 0 all) (append-nil (take n files) ∙ take_all n files end)
      (so_far.linked [] (subst (λ left. AreLinked all n left []) (sym none) (NoFile n)))
