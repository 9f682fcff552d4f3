-- What the bits of a float say of its size.
use Rattle.std.proofs.Common.{◌≡◌, ℕ, suc, ◌+◌, ◌*◌, ◌/◌, ◌%◌, ◌^◌, Bool, true, false, cond, leb, eqb, ◌≢◌, true≢false, refl, sym, ap, subst, ◌∙◌, arith, eq-eqb, ne_eqb}
use Rattle.std.specs.Prelude.{from_bits}
use Rattle.std.specs.Float.{float_is_finite, NotNan}
use Rattle.std.specs.Float.Ieee.{Float, nan, inf, fin, binary64, is_nan, of_bits, of_fields}
use Rattle.std.specs.Float.Ieee.Digits.{Equals, odd_val}

pub finite_number : (x : Float) → float_is_finite x ≡ true → NotNan x
unfolding is_nan float_is_finite
finite_number nan h = absurd (true≢false (sym h))
finite_number (inf s) h = tt
finite_number (fin s m e) h = tt

not_finite : (b s : Bool) → float_is_finite (cond b (inf s) nan) ≡ false
unfolding float_is_finite
not_finite true s = refl
not_finite false s = refl

-- The fields of a float that is finite: a field of 0 for the exponent, or one that is less than 2047.
at_zero : (s : Bool) (t : ℕ) → Equals (of_fields binary64 s 0 t) (t * 2 ^ 0) (2 ^ 1074)
unfolding of_fields
at_zero s t = odd_val 53 s t 0 1074

above_zero : (s : Bool) (k t : ℕ) → (suc k ≡ 2047 → ⊥) → Equals (of_fields binary64 s (suc k) t) ((2 ^ 52 + t) * 2 ^ k) (2 ^ 1074)
unfolding of_fields
above_zero s k t h = rw (ne_eqb (suc k) 2047 h) (odd_val 53 s (2 ^ 52 + t) k 1074)

all_ones : (s : Bool) (k t : ℕ) → suc k ≡ 2047 → float_is_finite (of_fields binary64 s (suc k) t) ≡ false
unfolding of_fields
all_ones s k t h = rw (eq-eqb (suc k) 2047 h) (not_finite (eqb t 0) s)

module _ (x : Float) (bits : ℕ) (same : from_bits binary64 bits ≡ x) (finite : float_is_finite x ≡ true) where
  abbrev field : ℕ
  field = bits % 2 ^ 63 / 2 ^ 52

  abbrev low : ℕ
  low = bits % 2 ^ 52

  fields : x ≡ of_fields binary64 (leb (2 ^ 63) bits) field low
  unfolding of_bits
  fields = sym same

  pub size_at_zero : field ≡ 0 → Equals x (low * 2 ^ 0) (2 ^ 1074)
  size_at_zero e =
      let P : Float → Type 0 = λ y. Equals y (low * 2 ^ 0) (2 ^ 1074) in
      subst P (sym (fields ∙ ap (λ k. of_fields binary64 (leb (2 ^ 63) bits) k low) e)) (at_zero (leb (2 ^ 63) bits) low)

  pub field_small : field ≢ 2047
  field_small e = true≢false (sym finite ∙ ap float_is_finite (fields ∙ ap (λ k. of_fields binary64 (leb (2 ^ 63) bits) k low) e) ∙ all_ones (leb (2 ^ 63) bits) 2046 low refl)

  pub size_above_zero : (k : ℕ) → field ≡ k + 1 → Equals x ((2 ^ 52 + low) * 2 ^ k) (2 ^ 1074)
  size_above_zero k e =
      let P : Float → Type 0 = λ y. Equals y ((2 ^ 52 + low) * 2 ^ k) (2 ^ 1074) in
      let f : field ≡ suc k = omega arith in
      subst P (sym (fields ∙ ap (λ k. of_fields binary64 (leb (2 ^ 63) bits) k low) f)) (above_zero (leb (2 ^ 63) bits) k low (λ g. field_small (f ∙ g)))
