-- Digits of the scaled quotient are those of the quotient.
use Rattle.std.proofs.Common.{◌≡◌, ◌≢◌, ℕ, ◌-◌, ◌*◌, ◌^◌, ◌<◌, ℤ, pos, ◌+ℤ◌, cond, sym, ap, ◌∙◌, arith, mul-pos, eq-eqb, ne_eqb}
use Rattle.std.specs.Float.Ieee.Nearest.{closest, closest_same}
use Rattle.protox_decimal.specs.Rounded.{Rounded, tens, tenths, exponent_of, carried, rounded_at, rounded}
use Rattle.protox_decimal.proofs.Scaled.{tens_pos}

module _ (precision n d : ℕ) (x : ℤ) (over under q : ℕ) (same : over * (d * tens x) ≡ n * tenths x * under) (D : 0 < d) (U : 0 < under)
    (first : x ≡ exponent_of n d) (digits : q ≡ closest (over * 10 ^ (precision - 1)) under) where
  is_carried : carried precision q x ≡ rounded precision n d
  is_carried =
      ap (λ q. carried precision q x)
      (digits ∙ closest_same (over * 10 ^ (precision - 1)) under (n * tenths x * 10 ^ (precision - 1)) (d * tens x) U (mul-pos D (tens_pos x)) (omega (arith, ap (λ y. y * 10 ^ (precision - 1)) same)))
      ∙ ap (λ x. rounded_at precision x n d) first

  abbrev up : Rounded
  up = record { digits = 10 ^ (precision - 1); exponent = x +ℤ pos 1 }

  abbrev plain : Rounded
  plain = record { digits = q; exponent = x }

  pub rounded_up : q ≡ 10 ^ precision → up ≡ rounded precision n d
  rounded_up e = ap (λ test. cond test up plain) (sym (eq-eqb _ _ e)) ∙ is_carried

  pub rounded_plain : q ≢ 10 ^ precision → plain ≡ rounded precision n d
  rounded_plain e = ap (λ test. cond test up plain) (sym (ne_eqb _ _ e)) ∙ is_carried
