-- Faults one behind another.
use Rattle.std.proofs.Common.{List, [], ◌∷◌, ◌++◌, ap, append-nil, append_assoc, refl, subst, sym, ◌∙◌}
use Rattle.std.specs.List.{FoldsTo, flat_map}
use Rattle.protox_option_checks.specs.Parts.{declared_faults}
use Rattle.protox_option_checks.specs.declared.checker.Checker.{Checker}
use Rattle.protox_option_checks.specs.declared.fault.CheckFault.{CheckFault}
use Rattle.protox_option_checks.specs.declared.site.Site.{Site}
use Rattle.protox_option_checks.specs.inner.Added.{Adds}
use Rattle.protox_walk.specs.Parts.{Declared}

-- what is wrong with a declaration of a file
abbrev pub wrong_at : Site → Declared → List CheckFault
wrong_at site = declared_faults site.files.now site.symbols.now site.marks.now site.number

pub adds_nothing : (a : Checker) → Adds a [] a
adds_nothing a = record { site = refl; added = sym (append-nil a.faults.items) }

pub adds_behind : (a b c : Checker) (xs ys : List CheckFault) → Adds a xs b → Adds b ys c → Adds a (xs ++ ys) c
adds_behind a b c xs ys p q = record {
  site = q.site ∙ p.site;
  added = q.added ∙ ap (λ (l : List CheckFault). l ++ ys) p.added ∙ append_assoc a.faults.items xs ys;
}

-- the faults of all declarations
pub adds_all : (a b : Checker) (ds : List Declared) → FoldsTo (λ old one new. Adds old (wrong_at old.site.now one) new) a ds b
    → Adds a (flat_map (wrong_at a.site.now) ds) b
adds_all a b [] p = subst (λ (c : Checker). Adds a [] c) p (adds_nothing a)
adds_all a b (d ∷ ds) p =
    adds_behind a p.0 b (wrong_at a.site.now d) (flat_map (wrong_at a.site.now) ds) p.1
    (subst (λ (site : Site). Adds p.0 (flat_map (wrong_at site) ds) b) p.1.site (adds_all p.0 b ds p.2))
