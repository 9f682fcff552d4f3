-- Imports, one behind another.
use Rattle.std.proofs.Common.{◌≡◌, ◌<◌, ◌+◌, ◌++◌, ℕ, List, [], ◌∷◌, drop, get_or, length, Option, Some, None, IfSome, option_to_list, refl, sym, ap, ◌∙◌, append_assoc}
use Rattle.std.specs.Prelude.{pos}
use Rattle.std.specs.List.{Contains}
use Rattle.std.proofs.lemmas.List.{drop_more, get_or_default}
use Rattle.protox_descriptor.specs.declared.tag.file.TheConstants.{DEPENDENCY}
use Rattle.protox_link_checks.specs.Imports.{import_faults_from, wrong_import}
use Rattle.protox_link_checks.specs.Uses.{faults_at}
use Rattle.protox_link_fault.specs.declared.LinkFault.{LinkFault}
use Rattle.protox_link_fault.specs.declared.LinkFaultKind.{LinkFaultKind}

named_below : (imports : List (Option ℕ)) (count i : ℕ) (named : Option ℕ) → ((n : ℕ) → Contains imports (Some n) → n < count) → i < length imports → get_or imports i None ≡ named → IfSome named (λ n. n < count)
named_below imports count i None below within is = tt
named_below imports count i (Some n) below within is = below n (i, within, get_or_default imports i (Some n) None within ∙ is)

pub import_below : (imports : List (Option ℕ)) (count len i : ℕ) → len ≡ count → ((n : ℕ) → Contains imports (Some n) → n < count) → i < length imports → IfSome (get_or imports i None) (λ n. n < len)
import_below imports count len i same below within = rw same (named_below imports count i (get_or imports i None) below within refl)

-- one import more
pub import_checked : (file i : ℕ) (imports : List (Option ℕ)) (earlier : List ℕ) (kinds : List LinkFaultKind) (before after : List LinkFault) → i < length imports
    → kinds ≡ wrong_import earlier (get_or imports i None)
    → after ≡ before ++ faults_at file (DEPENDENCY ∷ []) (pos i) kinds
    → after ++ import_faults_from file (i + 1) (option_to_list (get_or imports i None) ++ earlier) (drop (i + 1) imports) ≡ before ++ import_faults_from file i earlier (drop i imports)
import_checked file i imports earlier kinds before after within wrong added =
    let named = get_or imports i None in
    let rest = import_faults_from file (i + 1) (option_to_list named ++ earlier) (drop (i + 1) imports) in
    ap (λ faults. faults ++ rest) (added ∙ ap (λ k. before ++ faults_at file (DEPENDENCY ∷ []) (pos i) k) wrong)
    ∙ append_assoc before (faults_at file (DEPENDENCY ∷ []) (pos i) (wrong_import earlier named)) rest
    ∙ ap (λ left. before ++ import_faults_from file i earlier left) (sym (drop_more imports i None within))
