-- A text says the same of equal fractions.
use Rattle.std.proofs.Common.{◌≡◌, ℕ, ◌-◌, ◌*◌, ◌^◌, ◌<◌, ◌≤◌, Bool, true, false, cond, ◌&&◌, ◌++◌, leb, ltb, eqb, codes, ℤ, pos, refl, sym, ap, ap₂, ◌∙◌, arith, mul-pos, mul-le-mul_right, mul-lt-mul_of_pos_right, lt_of_mul-lt-mul_right, le-leb, lt-ltb, leb-true, ltb-true, eqb-true, eq-eqb, true≢false, eq-zero-or-pos, inl, inr}
use Rattle.std.proofs.Math.Nat.{le_of_mul-le-mul_right}
use Rattle.std.specs.Option.{unwrap_or}
use Rattle.std.specs.List.{find}
use Rattle.std.specs.Fmt.{sign_text}
use Rattle.std.specs.Float.{float_is_finite, is_sign_negative, NotNan}
use Rattle.std.specs.Float.Ieee.{Float, nan, inf, fin, is_nan, up, down}
use Rattle.std.specs.Float.Ieee.Digits.{Equals}
use Rattle.std.specs.Float.Ieee.Nearest.{closest_same}
use Rattle.std.specs.Float.Ieee.Fits.{down_pos}
use Rattle.protox_decimal.specs.Rounded.{tens, tenths, is_exponent, exponents, exponent_of, carried, rounded_at, rounded}
use Rattle.protox_decimal.specs.Texts.{size_text, rounded_text, general_text}
use Rattle.protox_decimal.proofs.Scaled.{tens_pos}

-- Two tests that follow from one another are the same.
same_test : (a b : Bool) → (a ≡ true → b ≡ true) → (b ≡ true → a ≡ true) → a ≡ b
same_test true b f g = sym (f refl)
same_test false true f g = g refl
same_test false false f g = refl

same_le : (a b c d : ℕ) → (a ≤ b → c ≤ d) → (c ≤ d → a ≤ b) → leb a b ≡ leb c d
same_le a b c d f g = same_test (leb a b) (leb c d) (λ e. le-leb c d (f (leb-true a b e))) (λ e. le-leb a b (g (leb-true c d e)))

same_lt : (a b c d : ℕ) → (a < b → c < d) → (c < d → a < b) → ltb a b ≡ ltb c d
same_lt a b c d f g = same_test (ltb a b) (ltb c d) (λ e. lt-ltb c d (f (ltb-true a b e))) (λ e. lt-ltb a b (g (ltb-true c d e)))

module _ (n d m e : ℕ) (D : 0 < d) (E : 0 < e) (same : n * e ≡ m * d) where
  le_kept : (t h : ℕ) → d * t ≤ n * h → e * t ≤ m * h
  le_kept t h l =
      let s : e * t * d ≤ m * h * d = omega (arith, mul-le-mul_right e l, ap (λ y. y * h) same) in
      le_of_mul-le-mul_right s D

  lt_kept : (t h : ℕ) → n * h < 10 * (d * t) → m * h < 10 * (e * t)
  lt_kept t h l =
      let s : m * h * d < 10 * (e * t) * d = omega (arith, mul-lt-mul_of_pos_right l E, ap (λ y. y * h) same) in
      lt_of_mul-lt-mul_right d s

zero_moved : (n d m e : ℕ) → 0 < d → n * e ≡ m * d → n ≡ 0 → m ≡ 0
zero_moved n d m e D same z = elim (eq-zero-or-pos m) [
  | inl h ↦ h
  | inr p ↦ let q : 0 < m * d = mul-pos p D in absurd (omega (arith, ap (λ y. y * e) z))
]

module _ (n d m e : ℕ) (D : 0 < d) (E : 0 < e) (same : n * e ≡ m * d) where
  back : m * d ≡ n * e
  back = sym same

  exponent_test : (x : ℤ) → is_exponent n d x ≡ is_exponent m e x
  exponent_test x =
      ap₂ (λ a b. a && b)
      (same_le (d * tens x) (n * tenths x) (e * tens x) (m * tenths x) (le_kept n d m e D E same (tens x) (tenths x)) (le_kept m e n d E D back (tens x) (tenths x)))
      (same_lt (n * tenths x) (10 * (d * tens x)) (m * tenths x) (10 * (e * tens x)) (lt_kept n d m e D E same (tens x) (tenths x)) (lt_kept m e n d E D back (tens x) (tenths x)))

  exponent_same : exponent_of n d ≡ exponent_of m e
  unfolding exponent_of
  exponent_same = let tests : is_exponent n d ≡ is_exponent m e = λ i x. exponent_test x i in ap (λ p. unwrap_or (find p exponents) (pos 0)) tests

  rounded_at_same : (precision : ℕ) (x : ℤ) → rounded_at precision x n d ≡ rounded_at precision x m e
  rounded_at_same precision x =
      ap (λ q. carried precision q x)
      (closest_same (n * tenths x * 10 ^ (precision - 1)) (d * tens x) (m * tenths x * 10 ^ (precision - 1)) (e * tens x) (mul-pos D (tens_pos x)) (mul-pos E (tens_pos x))
      (omega (arith, ap (λ y. y * (tenths x * 10 ^ (precision - 1) * tens x)) same)))

  rounded_same : (precision : ℕ) → rounded precision n d ≡ rounded precision m e
  rounded_same precision = rounded_at_same precision (exponent_of n d) ∙ ap (λ x. rounded_at precision x m e) exponent_same

  zero_same : eqb n 0 ≡ eqb m 0
  zero_same =
      same_test (eqb n 0) (eqb m 0)
      (λ t. eq-eqb m 0 (zero_moved n d m e D same (eqb-true n 0 t)))
      (λ t. eq-eqb n 0 (zero_moved m e n d E back (eqb-true m 0 t)))

  pub size_text_same : (precision : ℕ) → size_text precision n d ≡ size_text precision m e
  size_text_same precision = ap₂ (λ test text. cond test (codes "0") text) zero_same (ap (rounded_text precision) (rounded_same precision))

-- ---- the kinds of floats

pub nan_text : (precision : ℕ) (x : Float) → is_nan x ≡ true → codes "nan" ≡ general_text precision x
unfolding is_nan
nan_text precision nan h = refl
nan_text precision (inf s) h = absurd (true≢false (sym h))
nan_text precision (fin s m e) h = absurd (true≢false (sym h))

pub infinite_text : (precision : ℕ) (x : Float) → NotNan x → float_is_finite x ≡ false → sign_text (is_sign_negative x) ++ codes "inf" ≡ general_text precision x
unfolding is_nan float_is_finite is_sign_negative
infinite_text precision nan h f = absurd h
infinite_text precision (inf s) h f = refl
infinite_text precision (fin s m e) h f = absurd (true≢false f)

pub finite_text : (precision : ℕ) (x : Float) (n d : ℕ) → 0 < d → Equals x n d → sign_text (is_sign_negative x) ++ size_text precision n d ≡ general_text precision x
unfolding is_sign_negative
finite_text precision nan n d D h = absurd h
finite_text precision (inf s) n d D h = absurd h
finite_text precision (fin s m e) n d D h = ap (λ text. sign_text s ++ text) (size_text_same n d (m * up e) (down e) D (down_pos e) (sym h) precision)
