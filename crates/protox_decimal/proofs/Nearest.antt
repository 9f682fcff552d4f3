-- The whole number nearest to a quotient, from its whole part and its rest.
use Rattle.std.proofs.Common.{◌≡◌, ℕ, suc, ◌+◌, ◌*◌, ◌%◌, ◌<◌, cond, eqb, leb, refl, ap₂, ◌∙◌, arith}
use Rattle.std.proofs.Math.Arith.{digits_div, digits_mod}
use Rattle.std.proofs.Math.Dec.{compare_is_eq, is_le}
use Rattle.std.proofs.lemmas.Bool.Decides.{nat_tests}
use Prim.Native.Nat.{compare, Ordering}
use Rattle.std.specs.Float.Ieee.{nearest}
use Rattle.std.specs.Float.Ieee.Nearest.{closest}

-- The order of twice the rest and the divisor, as two tests.
by_tests : (whole : ℕ) (o : Ordering) → nearest whole o ≡ cond (compare_is_eq o) (whole + whole % 2) (cond (is_le o) whole (suc whole))
by_tests whole Ordering.lt = refl
by_tests whole Ordering.eq = refl
by_tests whole Ordering.gt = refl

module _ (whole rest under : ℕ) (below : rest < under) where
  tested : closest (whole * under + rest) under ≡ cond (eqb (rest * 2) under) (whole + whole % 2) (cond (leb (rest * 2) under) whole (suc whole))
  tested =
      let round : ℕ → ℕ → ℕ = λ q r. nearest q (compare (r * 2) under) in
      ap₂ round (digits_div whole below) (digits_mod whole below) ∙ by_tests whole (compare (rest * 2) under)

  pub nearest_down : rest * 2 < under → whole ≡ closest (whole * under + rest) under
  nearest_down h = rw tested (grind (arith, nat_tests))

  pub nearest_tie : rest * 2 ≡ under → whole + whole % 2 ≡ closest (whole * under + rest) under
  nearest_tie h = rw tested (grind (arith, nat_tests))

  pub nearest_up : under < rest * 2 → whole + 1 ≡ closest (whole * under + rest) under
  nearest_up h = rw tested (grind (arith, nat_tests))
