-- From a package outwards, one step each time.
use Rattle.std.proofs.Common.{◌≡◌, ◌≢◌, ◌<◌, ◌==◌, inl, inr, ℕ, false, List, [], ◌∷◌, ◌++◌, length, map, Option, Some, None, OnOk, Result, sym, ap, subst, ◌∙◌, append_assoc}
use Rattle.std.specs.List.{All, Contains}
use Rattle.std.proofs.lemmas.Bool.{false≢true}
use Rattle.std.proofs.lemmas.List.{map-append}
use Rattle.std.proofs.lemmas.List.Elements.{All-head}
use Rattle.std.proofs.lemmas.Option.{slice_get-get_or}
use Rattle.std.proofs.lemmas.Result.{on_ok_weaker}
use Rattle.protox_descriptor.specs.declared.tag.file.TheConstants.{PACKAGE}
use Rattle.protox_link_checks.specs.Imports.{if_found, if_no_package, no_packages, outwards, package_faults, wrong_length, wrong_package_found}
use Rattle.protox_link_checks.specs.Uses.{fault_at, faults_at}
use Rattle.protox_link_fault.specs.declared.LinkFault.{LinkFault}
use Rattle.protox_link_fault.specs.declared.LinkFaultKind.TheVariants.{NotAPackage}
use Rattle.protox_name_tree.proofs.Lemmas.{all_at, known_name, name_of_found, no_empty_name}
use Rattle.protox_name_tree.specs.Tree.{IsKnown, IsNameTree, kind_at, name_at, number_of}
use Rattle.protox_names.specs.Names.{scopes}
use Rattle.protox_scopes.specs.Scopes.{IsOuter}
use Rattle.protox_scopes.specs.declared.kind.Kind.{Kind}
use Rattle.protox_symbols.specs.Symbols.{Table}
use Rattle.protox_views.proofs.Lemmas.{is_below, past_name}

-- the scope of what is in the table is in the table
pub outer_known : (t : Table) (tree : IsNameTree t.names) (q : ℕ) (outer : Option ℕ) → q < length t.names.full_names → IsOuter (name_at t.names) q outer → IsKnown t.names.full_names outer
outer_known t tree q None known is = tt
outer_known t tree q (Some o) known is =
    let closed = all_at (λ name. All (Contains t.names.full_names) (scopes name)) t.names.full_names q (name_at t.names q) tree.names.closed (known_name t.names.full_names q known) in
    let has : Contains t.names.full_names (name_at t.names o) = All-head (Contains t.names.full_names) (name_at t.names o) (scopes (name_at t.names o)) (subst (All (Contains t.names.full_names)) is closed) in
    elim (is_below o (length t.names.full_names)) [
      | inl below ↦ below
      | inr past ↦ absurd (no_empty_name t.names.full_names has.0 tree.names
          (slice_get-get_or t.names.full_names has.0 (name_at t.names o) has.1 ∙ ap (λ name. Some name) (has.2 ∙ past_name t.names o past)))
    ]

abbrev faults_of : Table → ℕ → Option ℕ → List LinkFault
faults_of t file place = faults_at file [] PACKAGE (map NotAPackage (no_packages t (outwards t.names place)))

around : (t : Table) (q : ℕ) (outer : Option ℕ) → IsOuter (name_at t.names) q outer → scopes (name_at t.names q) ≡ outwards t.names outer
around t q None is = is
around t q (Some o) is = is

pub one_outwards : (t : Table) (tree : IsNameTree t.names) (file q : ℕ) (outer : Option ℕ) (kind : Kind) (before after : List LinkFault) → q < length t.names.full_names → IsOuter (name_at t.names) q outer → kind ≡ kind_at t.names q
    → after ≡ before ++ faults_at file [] PACKAGE (map NotAPackage (if_no_package kind q))
    → after ++ faults_of t file outer ≡ before ++ faults_of t file (Some q)
one_outwards t tree file q outer kind before after known is same added =
    let here = if_no_package (kind_at t.names q) q in
    let rest = no_packages t (outwards t.names outer) in
    let told = λ (numbers : List ℕ). faults_at file [] PACKAGE (map NotAPackage numbers) in
    ap (λ faults. faults ++ told rest) (added ∙ ap (λ k. before ++ told (if_no_package k q)) same)
    ∙ append_assoc before (told here) (told rest)
    ∙ ap (λ faults. before ++ faults) (sym (ap (faults_at file [] PACKAGE) (map-append NotAPackage here rest) ∙ map-append (fault_at file [] PACKAGE) (map NotAPackage here) (map NotAPackage rest)))
    ∙ ap (λ numbers. before ++ told (numbers ++ rest)) (ap (if_found t) (sym (tree.names.numbered.number_of (name_at t.names q) q (known_name t.names.full_names q known))))
    ∙ ap (λ names. before ++ told (if_found t (number_of t.names (name_at t.names q)) ++ no_packages t names)) (sym (around t q outer is))

-- all that is wrong with a package: first its length, and then what its name stands for
package_told : (t : Table) (file : ℕ) (name : List ℕ) (found : Option ℕ) (before : List LinkFault) → (length name == 0) ≡ false → found ≡ number_of t.names name
    → (before ++ faults_at file [] PACKAGE (wrong_length name)) ++ faults_at file [] PACKAGE (wrong_package_found t name found) ≡ before ++ package_faults t file name
package_told t file [] found before some is = absurd (false≢true (sym some))
package_told t file (byte ∷ rest) found before some is =
    let name = byte ∷ rest in
    append_assoc before (faults_at file [] PACKAGE (wrong_length name)) (faults_at file [] PACKAGE (wrong_package_found t name found))
    ∙ ap (λ (faults : List LinkFault). before ++ faults) (sym (map-append (fault_at file [] PACKAGE) (wrong_length name) (wrong_package_found t name found)))
    ∙ ap (λ f. before ++ faults_at file [] PACKAGE (wrong_length name ++ wrong_package_found t name f)) is

-- where it has a number
pub package_found : {T E : Type 0} (r : Result T E) (t : Table) (tree : IsNameTree t.names) (file : ℕ) (name : List ℕ) (found : Option ℕ) (n : ℕ) (before between after : List LinkFault) → (length name == 0) ≡ false → found ≡ number_of t.names name → found ≡ Some n
    → between ≡ before ++ faults_at file [] PACKAGE (wrong_length name)
    → OnOk r (after ≡ between ++ faults_of t file (Some n)) → OnOk r (after ≡ before ++ package_faults t file name)
package_found r t tree file name found n before between after some is at length_told =
    let same : name_at t.names n ≡ name = name_of_found t.names.full_names name n tree.names (sym is ∙ at) in
    on_ok_weaker r (λ added. added
    ∙ ap (λ (faults : List LinkFault). faults ++ faults_of t file (Some n)) length_told
    ∙ ap (λ whole. (before ++ faults_at file [] PACKAGE (wrong_length name)) ++ faults_at file [] PACKAGE (map NotAPackage (no_packages t (whole ∷ scopes whole)))) same
    ∙ ap (λ f. (before ++ faults_at file [] PACKAGE (wrong_length name)) ++ faults_at file [] PACKAGE (wrong_package_found t name f)) (sym at)
    ∙ package_told t file name found before some is)
