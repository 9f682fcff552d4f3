-- What the list of faults says.
use Rattle.std.proofs.Common.{◌≡◌, Bool, true, false, nat_eq, List, [], ◌∷◌, map, length, refl, sym, ap, ◌∙◌, arith}
use Rattle.std.proofs.lemmas.Bool.{eqb-true, eqb-false}
use Rattle.protox_ast.specs.declared.ast.File.{File}
use Rattle.protox_checks.proofs.Lemmas.{none-listed}
use Rattle.protox_checks.specs.Checks.{AreListed}
use Rattle.protox_checks.specs.Faults.{IsFaultless, settled}
use Rattle.protox_fault.specs.declared.error.ParseErrorKind.{ParseErrorKind}

-- If no fault is found, nothing is wrong.
pub none-found : (file : File) (found : List ParseErrorKind) → AreListed file found → found ≡ [] → IsFaultless file
none-found file found h none = none-listed file (sym h ∙ ap (map settled) none)

pub empty-none : (found : List ParseErrorKind) (empty : Bool) → empty ≡ nat_eq (length found) 0 → empty ≡ true → found ≡ []
empty-none [] empty h e = refl
empty-none (f ∷ found) empty h e = absurd (omega (arith, eqb-true (length (f ∷ found)) 0 (sym h ∙ e)))

pub some-found : (found : List ParseErrorKind) (empty : Bool) → empty ≡ nat_eq (length found) 0 → empty ≡ false → found ≡ [] → ⊥
some-found found empty h e n = eqb-false (length found) 0 (sym h ∙ e) (ap length n)
