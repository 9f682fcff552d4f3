-- The decimal exponent of a quotient: it is the one that scales the quotient to one from 1 up to 10.
use Rattle.std.proofs.Common.{◌≡◌, ℕ, zero, suc, ◌+◌, ◌-◌, ◌*◌, ◌^◌, ◌<◌, ◌≤◌, Bool, true, false, cond, ◌&&◌, map, ℤ, pos, negsuc, ◌-ℤ◌, Some, unwrap_or, true≢false, refl, sym, ap, subst, ◌∙◌, inl, inr, arith, pow-add, mul-pos, mul-le-mul_left, mul-le-mul_right, mul-lt-mul_of_pos_right, lt_of_mul-lt-mul_right, eq-zero-or-pos, le-leb, lt-ltb, leb-true, ltb-true}
use Rattle.std.proofs.Math.Nat.{le_of_mul-le-mul_right}
use Rattle.std.proofs.lemmas.Int.{ints}
use Rattle.std.specs.Prelude.{nat_le, nat_lt}
use Rattle.std.specs.List.{find, range_with_len}
use Rattle.protox_decimal.specs.Rounded.{tens, tenths, is_exponent, exponents, exponent_of}
use Rattle.protox_decimal.proofs.Powers.{ten_pos, ten_suc, ten_mono, power_below}

-- ---- powers of ten whose exponent is a difference

above : (up down : ℕ) → down ≤ up → pos up -ℤ pos down ≡ pos (up - down)
above up down h = omega (arith, ints)

below : (up down : ℕ) → up < down → pos up -ℤ pos down ≡ negsuc (down - up - 1)
below up down h = omega (arith, ints)

pub tens_parts : (up down : ℕ) → 10 ^ down * tens (pos up -ℤ pos down) ≡ tenths (pos up -ℤ pos down) * 10 ^ up
tens_parts up down =
    elim (eq-zero-or-pos (down - up)) [
      | inl z ↦
          let P : ℤ → Type 0 = λ x. 10 ^ down * tens x ≡ tenths x * 10 ^ up in
          let e : down + (up - down) ≡ up = omega arith in
          let s : 10 ^ down * 10 ^ (up - down) ≡ 1 * 10 ^ up = sym (pow-add 10 down (up - down)) ∙ ap (λ k. 10 ^ k) e ∙ omega arith in
          subst P (sym (above up down (omega arith))) s
      | inr p ↦
          let P : ℤ → Type 0 = λ x. 10 ^ down * tens x ≡ tenths x * 10 ^ up in
          let e : suc (down - up - 1) + up ≡ down = omega arith in
          let s : 10 ^ down * 1 ≡ 10 ^ suc (down - up - 1) * 10 ^ up = omega (arith, pow-add 10 (suc (down - up - 1)) up, ap (λ k. 10 ^ k) e) in
          subst P (sym (below up down (omega arith))) s
    ]

pub tens_pos : (x : ℤ) → 0 < tens x
tens_pos (pos k) = ten_pos k
tens_pos (negsuc k) = omega arith

pub tenths_pos : (x : ℤ) → 0 < tenths x
tenths_pos (pos k) = omega arith
tenths_pos (negsuc k) = ten_pos (suc k)

-- ---- the scaled quotient

module _ (n d : ℕ) (x : ℤ) (over under : ℕ) (same : over * (d * tens x) ≡ n * tenths x * under) (D : 0 < d) (U : 0 < under) where
  from : under ≤ over → d * tens x ≤ n * tenths x
  from h =
      let l : d * tens x * under ≤ n * tenths x * under = omega (arith, mul-le-mul_left (d * tens x) h) in
      le_of_mul-le-mul_right l U

  up_to : over < 10 * under → n * tenths x < 10 * (d * tens x)
  up_to h =
      let T : 0 < d * tens x = mul-pos D (tens_pos x) in
      let l : n * tenths x * under < 10 * (d * tens x) * under = omega (arith, mul-lt-mul_of_pos_right h T) in
      lt_of_mul-lt-mul_right under l

  pub exponent_found : under ≤ over → over < 10 * under → is_exponent n d x ≡ true
  exponent_found h l = rw (le-leb (d * tens x) (n * tenths x) (from h)) (lt-ltb (n * tenths x) (10 * (d * tens x)) (up_to l))

-- ---- the exponent is the only one

each_passes : (p q : Bool) → (p && q) ≡ true → (p ≡ true) × (q ≡ true)
each_passes true q h = (refl, h)
each_passes false q h = absurd (true≢false (sym h))

-- what the test says of an exponent that is counted from `base`
module _ (n d base k : ℕ) (D : 0 < d) where
  abbrev x : ℤ
  x = pos k -ℤ pos base

  counted : is_exponent n d x ≡ true → (d * 10 ^ k ≤ n * 10 ^ base) × (n * 10 ^ base < d * 10 ^ (k + 1))
  counted h =
      let parts = tens_parts k base in
      let at_least = nat_le (d * tens x) (n * tenths x) in
      let less = nat_lt (n * tenths x) (10 * (d * tens x)) in
      let tests = each_passes at_least less h in
      let l : d * tens x ≤ n * tenths x = leb-true (d * tens x) (n * tenths x) tests.0 in
      let u : n * tenths x < 10 * (d * tens x) = ltb-true (n * tenths x) (10 * (d * tens x)) tests.1 in
      let H = tenths_pos x in
      let B = ten_pos base in
      let first : d * 10 ^ k * tenths x ≤ n * 10 ^ base * tenths x = omega (arith, mul-le-mul_right (10 ^ base) l, ap (λ y. d * y) parts) in
      let second : n * 10 ^ base * tenths x < d * 10 ^ (k + 1) * tenths x = omega (arith, mul-lt-mul_of_pos_right u B, ap (λ y. d * y) parts, ap (λ y. d * tenths x * y) (ten_suc k)) in
      (le_of_mul-le-mul_right first H, lt_of_mul-lt-mul_right (tenths x) second)

only : (n d base j k : ℕ) → 0 < d → is_exponent n d (pos j -ℤ pos base) ≡ true → is_exponent n d (pos k -ℤ pos base) ≡ true → j ≡ k
only n d base j k D e f =
    let a = counted n d base j D e in
    let b = counted n d base k D f in
    let l : j < k + 1 = power_below d j (k + 1) (omega arith) in
    let u : k < j + 1 = power_below d k (j + 1) (omega arith) in
    omega arith

-- ---- a search that one number alone passes

module _ (p : ℤ → Bool) (f : ℕ → ℤ) (k : ℕ) (passes : p (f k) ≡ true) (alone : (j : ℕ) → p (f j) ≡ true → j ≡ k) where
  found : (n a : ℕ) → a ≤ k → k < a + n → find p (map f (range_with_len a n)) ≡ Some (f k)
  found zero a h l = absurd (omega arith)
  found (suc n) a h l = at (p (f a)) refl (λ no. found n (a + 1) (omega arith) (omega arith))
    where
      at : (b : Bool) → p (f a) ≡ b → ((a ≡ k → ⊥) → find p (map f (range_with_len (a + 1) n)) ≡ Some (f k)) → cond b (Some (f a)) (find p (map f (range_with_len (a + 1) n))) ≡ Some (f k)
      at true e more = ap (λ j. Some (f j)) (alone a e)
      at false e more = more (λ s. true≢false (sym passes ∙ ap (λ j. p (f j)) (sym s) ∙ e))

pub exponent_is : (n d k : ℕ) → 0 < d → k < 800 → is_exponent n d (pos k -ℤ pos 400) ≡ true → pos k -ℤ pos 400 ≡ exponent_of n d
unfolding exponent_of exponents
exponent_is n d k D l h = sym (ap (λ o. unwrap_or o (pos 0)) (found (is_exponent n d) (λ j. pos j -ℤ pos 400) k h (λ j e. only n d 400 j k D e h) 800 0 (omega arith) l))

-- ---- the two loops

module _ (n d up down : ℕ) (N : 0 < n) (D : 0 < d) where
  abbrev first : ℤ
  first = pos up -ℤ pos down

  pub scaled_same : n * 10 ^ down * (d * tens first) ≡ n * tenths first * (d * 10 ^ up)
  scaled_same = omega (arith, ap (λ y. n * d * y) (tens_parts up down))

  pub scaled_found : d * 10 ^ up ≤ n * 10 ^ down → n * 10 ^ down < 10 * (d * 10 ^ up) → is_exponent n d first ≡ true
  scaled_found h l =
      let U : 0 < d * 10 ^ up = mul-pos D (ten_pos up) in
      exponent_found n d first (n * 10 ^ down) (d * 10 ^ up) scaled_same D U h l

  pub scaled_exponent : up ≤ 350 → down ≤ 350 → d * 10 ^ up ≤ n * 10 ^ down → n * 10 ^ down < 10 * (d * 10 ^ up) → first ≡ exponent_of n d
  scaled_exponent u w h l =
      let k = up + 400 - down in
      let e : pos k -ℤ pos 400 ≡ first = omega (arith, ints) in
      let P : ℤ → Type 0 = λ x. is_exponent n d x ≡ true in
      sym e ∙ exponent_is n d k D (omega arith) (subst P (sym e) (scaled_found h l))

pub raised_room : (d up w : ℕ) → up ≤ 350 → d * 10 ^ 350 * 10 < w → 10 * (d * 10 ^ up) < w
raised_room d up w h l = omega (arith, mul-le-mul_left d (ten_mono up 350 h))
