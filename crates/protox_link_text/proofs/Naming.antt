-- Names that are told in parts.
use Rattle.std.proofs.Common.{◌≡◌, ◌+◌, ◌∷◌, [], ℕ, true, false, List, drop, length, refl, sym, ap, ◌∙◌}
use Rattle.std.proofs.lemmas.Bool.{true≢false}
use Rattle.std.proofs.Math.Seq.{drop-append-add}
use Rattle.protox_link_text.specs.Told.{defined_in}
use Rattle.protox_link_text.specs.declared.error.LinkError.TheVariants.{AlreadyDefined, AlreadyDefinedIn}
use Rattle.protox_name_tree.proofs.Lemmas.{IsCutAtLast}
use Rattle.protox_name_tree.specs.Tree.{dotted}
use Rattle.protox_names.proofs.Lemmas.{scopes_at_dot}
use Rattle.protox_names.specs.Names.{is_absolute, scopes}

-- only the empty name has no dot in front
pub no_name : (name : List ℕ) → is_absolute (dotted name) ≡ false → [] ≡ name
no_name [] h = refl
no_name (byte ∷ name) h = absurd (true≢false h)

pub defined_alone : (name : List ℕ) → scopes name ≡ [] → AlreadyDefined name ≡ defined_in name (scopes name)
defined_alone name alone = ap (defined_in name) (sym alone)

pub defined_at : (name scope own : List ℕ) → IsCutAtLast name scope own → AlreadyDefinedIn own scope ≡ defined_in name (scopes name)
defined_at name scope own at =
    ap (λ o. AlreadyDefinedIn o scope) (sym (ap (drop (length scope + 1)) at.whole ∙ drop-append-add scope (46 ∷ own) 1))
    ∙ ap (defined_in name) (sym (ap scopes at.whole ∙ scopes_at_dot scope own at.one))
