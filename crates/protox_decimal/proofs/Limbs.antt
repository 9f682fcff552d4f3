-- Limbs, and the number that they stand for.
use Rattle.std.proofs.Common.{◌≡◌, ℕ, zero, suc, ◌+◌, ◌*◌, ◌/◌, ◌%◌, ◌^◌, ◌<◌, ◌≤◌, ◌-◌, Less, Equal, Greater, List, [], ◌∷◌, ◌++◌, length, get_or, take, drop, refl, sym, ap, ap₂, ◌∙◌, arith, add-one, pow-suc, le_of_lt, lt_of_le_of_lt, mul_assoc, mul-le-mul, mul-le-mul_left, mul-le-mul_right}
use Rattle.std.proofs.Math.ListN.{set, replicate}
use Rattle.std.proofs.Math.Pow.{pow_mono}
use Rattle.std.proofs.lemmas.Cmp.{by_ranked, ranked}
use Rattle.std.proofs.lemmas.List.{take_all, take_more, take_more_set, length-take-le, length-drop, take-append-drop}
use Rattle.std.proofs.lemmas.Nat.{pow-add}
use Rattle.std.specs.Cmp.{nat_cmp_is}
use Rattle.std.specs.Ordering.{nat_cmp, ordering_then}
use Rattle.protox_decimal.specs.inner.Limbs.{room, value}

-- ---- none, one more, and all

pub value-none : value [] ≡ 0
unfolding value
value-none = refl

pub value-two : (n : ℕ) → value (n % 2 ^ 32 ∷ n / 2 ^ 32 ∷ replicate 70 0) ≡ n
unfolding value
value-two n = omega arith

value-append : (low high : List ℕ) → value (low ++ high) ≡ value low + (2 ^ 32) ^ length low * value high
unfolding value
value-append [] high = omega arith
value-append (limb ∷ low) high =
    omega (arith, value-append low high, ap (λ w. w * value high) (pow-suc (2 ^ 32) (length low)))

value-push : (limbs : List ℕ) (limb : ℕ) → value (limbs ++ limb ∷ []) ≡ value limbs + limb * (2 ^ 32) ^ length limbs
unfolding value
value-push limbs limb = omega (arith, value-append limbs (limb ∷ []))

pushed : (limbs : List ℕ) (i limb : ℕ) → i < length limbs → value (take i limbs ++ limb ∷ []) ≡ value (take i limbs) + limb * (2 ^ 32) ^ i
pushed limbs i limb h =
    value-push (take i limbs) limb ∙ ap (λ n. value (take i limbs) + limb * (2 ^ 32) ^ n) (length-take-le i limbs (le_of_lt h))

pub value-more : (limbs : List ℕ) (i : ℕ) → i < length limbs → value (take (i + 1) limbs) ≡ value (take i limbs) + get_or limbs i 0 * (2 ^ 32) ^ i
value-more limbs i h = ap value (take_more limbs i 0 h) ∙ pushed limbs i (get_or limbs i 0) h

pub value-written : (limbs : List ℕ) (i limb : ℕ) → i < length limbs → value (take (i + 1) (set limbs i limb)) ≡ value (take i limbs) + limb * (2 ^ 32) ^ i
value-written limbs i limb h = ap value (take_more_set limbs i limb h) ∙ pushed limbs i limb h

pub unit-more : (i : ℕ) → (2 ^ 32) ^ (i + 1) ≡ (2 ^ 32) ^ i * 2 ^ 32
unit-more i = rw add-one (pow-suc (2 ^ 32) i)

pub value-all : (limbs : List ℕ) (i : ℕ) → length limbs ≡ 72 → i ≡ 72 → value (take i limbs) ≡ value limbs
value-all limbs i h e = ap value (take_all i limbs (omega arith))

pub unit-all : (i : ℕ) → i ≡ 72 → (2 ^ 32) ^ i ≡ room
unfolding room
unit-all i e = ap (λ k. (2 ^ 32) ^ k) e

-- What lies below a unit, and one limb of that unit, lie below the next unit.
pub below_more : (w p limb : ℕ) → p < w → limb < 2 ^ 32 → p + limb * w < w * 2 ^ 32
below_more w p limb h l =
    let m : (limb + 1) * w ≤ 2 ^ 32 * w = mul-le-mul_right w (omega arith) in
    omega arith

-- ---- multiplication

pub product_fits : (limb by carry : ℕ) → limb < 2 ^ 32 → by < 2 ^ 32 → carry < 2 ^ 32 → limb * by + carry < 2 ^ 64
product_fits limb by carry h l m =
    let a : limb ≤ 4294967295 = omega arith in
    let b : by ≤ 4294967295 = omega arith in
    omega (arith, mul-le-mul a b)

pub multiplied : (low by carry limb product w new : ℕ) → new + carry * w ≡ low * by → product ≡ limb * by + carry → (new + product % 2 ^ 32 * w) + product / 2 ^ 32 * (w * 2 ^ 32) ≡ (low + limb * w) * by
multiplied low by carry limb product w new h e =
    let parts : product % 2 ^ 32 + product / 2 ^ 32 * 2 ^ 32 ≡ limb * by + carry = omega arith in
    omega (arith, h, ap (λ x. x * w) parts)

-- A product that has room carries nothing out.
pub nothing_carried : (new carry w product : ℕ) → new + carry * w ≡ product → product < w → new ≡ product
nothing_carried new zero w product h l = omega arith
nothing_carried new (suc carry) w product h l = absurd (omega arith)

-- ---- powers of two

-- A number that has room with more limbs below it has no others than zeros at its top.
no_others : (n low high unit w : ℕ) → n ≡ low + unit * high → n * w < unit * w → high ≡ 0
no_others n low zero unit w h l = refl
no_others n low (suc high) unit w h l =
    let most : unit ≤ n = omega arith in
    absurd (omega (arith, mul-le-mul_right w most))

module _ (limbs : List ℕ) (places : ℕ) (h : length limbs ≡ 72) (l : places ≤ 72) where
  abbrev low : List ℕ
  low = take (72 - places) limbs

  abbrev high : List ℕ
  high = drop (72 - places) limbs

  length-low : length low ≡ 72 - places
  length-low = length-take-le (72 - places) limbs (omega arith)

  length-high : length high ≡ places
  length-high = omega (arith, length-drop (72 - places) limbs)

  whole : value limbs ≡ value low + (2 ^ 32) ^ (72 - places) * value high
  whole =
      ap value (sym (take-append-drop (72 - places) limbs)) ∙ value-append low high
      ∙ ap (λ k. value low + (2 ^ 32) ^ k * value high) length-low

  units : (2 ^ 32) ^ (72 - places) * (2 ^ 32) ^ places ≡ room
  units =
      let k : 72 - places + places ≡ 72 = omega arith in
      sym (pow-add (2 ^ 32) (72 - places) places) ∙ unit-all (72 - places + places) k

  pub moved : value limbs * (2 ^ 32) ^ places < room → value (high ++ low) ≡ value limbs * (2 ^ 32) ^ places
  moved r =
      let zeros = no_others (value limbs) (value low) (value high) ((2 ^ 32) ^ (72 - places)) ((2 ^ 32) ^ places) whole (rw units r) in
      let top : (2 ^ 32) ^ (72 - places) * value high ≡ 0 = omega (arith, ap (λ x. (2 ^ 32) ^ (72 - places) * x) zeros) in
      let same : value limbs ≡ value low = omega (arith, whole, top) in
      value-append high low
      ∙ omega (arith, zeros, ap (λ k. (2 ^ 32) ^ k * value low) length-high, ap (λ x. x * (2 ^ 32) ^ places) same)

unit-power : (i : ℕ) → (2 ^ 32) ^ i ≡ 2 ^ (32 * i)
unit-power zero = refl
unit-power (suc i) =
    let k : 32 * i + 32 ≡ 32 * suc i = omega arith in
    pow-suc (2 ^ 32) i ∙ ap (λ x. x * 2 ^ 32) (unit-power i) ∙ sym (pow-add 2 (32 * i) 32) ∙ ap (λ x. 2 ^ x) k

pub limb-power : (k : ℕ) → k < 32 → 1 * 2 ^ k % 2 ^ 32 ≡ 2 ^ k
limb-power k h =
    let most : k ≤ 31 = omega arith in
    let small : 2 ^ k ≤ 2 ^ 31 = pow_mono most in
    omega arith

pub shifted : (n count : ℕ) → n * (2 ^ 32) ^ (count / 32) * (1 * 2 ^ (count % 32) % 2 ^ 32) ≡ n * 2 ^ count
shifted n count =
    let k : 32 * (count / 32) + count % 32 ≡ count = omega arith in
    let places = unit-power (count / 32) in
    let bits = limb-power (count % 32) (omega arith) in
    ap₂ (λ x y. n * x * y) places bits
    ∙ mul_assoc n (2 ^ (32 * (count / 32))) (2 ^ (count % 32))
    ∙ ap (λ x. n * x) (sym (pow-add 2 (32 * (count / 32)) (count % 32)) ∙ ap (λ x. 2 ^ x) k)

pub places_room : (n count : ℕ) → n * 2 ^ count < room → n * (2 ^ 32) ^ (count / 32) < room
places_room n count h =
    let most : 32 * (count / 32) ≤ count = omega arith in
    let power : 2 ^ (32 * (count / 32)) ≤ 2 ^ count = pow_mono most in
    rw (unit-power (count / 32)) (lt_of_le_of_lt (mul-le-mul_left n power) h)

-- Only zero has room where the power alone has none.
pub only_zero : (n count : ℕ) → 2304 ≤ count → n * 2 ^ count < room → n ≡ 0
unfolding room
only_zero zero count h l = refl
only_zero (suc n) count h l = let power : 2 ^ 2304 ≤ 2 ^ count = pow_mono h in absurd (omega arith)

-- ---- subtraction

pub subtracted : (old other unit limb taken left w new : ℕ) → new + other + unit * w ≡ old + w → left + taken + 1 ≡ limb + unit + 2 ^ 32 → (new + left % 2 ^ 32 * w) + (other + taken * w) + left / 2 ^ 32 * (w * 2 ^ 32) ≡ (old + limb * w) + w * 2 ^ 32
subtracted old other unit limb taken left w new h e =
    let parts : left % 2 ^ 32 + left / 2 ^ 32 * 2 ^ 32 + taken + 1 ≡ limb + unit + 2 ^ 32 = omega arith in
    omega (arith, h, ap (λ x. x * w) parts)

-- A difference is not below zero, so that the unit that was lent comes back.
pub lent_back : (new other old unit w : ℕ) → new + other + unit * w ≡ old + w → new < w → other ≤ old → unit ≤ 1 → new + other ≡ old
lent_back new other old zero w h l m u = absurd (omega arith)
lent_back new other old (suc zero) w h l m u = omega arith
lent_back new other old (suc (suc unit)) w h l m u = absurd (omega arith)

-- ---- comparison

outweighs : (w p q x y : ℕ) → p < w → x < y → p + x * w < q + y * w
outweighs w p q x y h l =
    let m : (x + 1) * w ≤ y * w = mul-le-mul_right w (omega arith) in
    omega arith

module _ (w p q x y : ℕ) (h : p < w) (l : q < w) where
  same_limb : x ≡ y → nat_cmp p q ≡ nat_cmp (p + x * w) (q + y * w)
  same_limb e =
      let s : x * w ≡ y * w = ap (λ k. k * w) e in
      by_ranked _ _ _ (nat_cmp p q) (ranked p q (nat_cmp p q) refl)
      (λ o m. o ∙ nat_cmp_is (p + x * w) (q + y * w) Less (omega arith))
      (λ o m. o ∙ nat_cmp_is (p + x * w) (q + y * w) Equal (omega arith))
      (λ o m. o ∙ nat_cmp_is (p + x * w) (q + y * w) Greater (omega arith))

  pub compared : ordering_then (nat_cmp x y) (nat_cmp p q) ≡ nat_cmp (p + x * w) (q + y * w)
  compared =
      by_ranked _ _ _ (nat_cmp x y) (ranked x y (nat_cmp x y) refl)
      (λ o m. ap (λ r. ordering_then r (nat_cmp p q)) o ∙ nat_cmp_is _ _ Less (outweighs w p q x y h m))
      (λ o m. ap (λ r. ordering_then r (nat_cmp p q)) o ∙ same_limb m)
      (λ o m. ap (λ r. ordering_then r (nat_cmp p q)) o ∙ nat_cmp_is _ _ Greater (outweighs w q p y x l m))
