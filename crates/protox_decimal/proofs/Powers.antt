-- Powers of ten, as loops multiply them together.
use Rattle.std.proofs.Common.{◌≡◌, ℕ, ◌+◌, ◌-◌, ◌*◌, ◌^◌, ◌<◌, ◌≤◌, ◌⊎◌, ap, ◌∙◌, arith, pow-suc, add-one, mul-le-mul_left, lt_of_not-le, lt_irrefl, lt_of_lt_of_le}
use Rattle.std.proofs.Math.Nat.{pow-le-pow_right}

pub ten_mono : (j k : ℕ) → j ≤ k → 10 ^ j ≤ 10 ^ k
ten_mono j k h = pow-le-pow_right (omega arith) h

pub ten_pos : (k : ℕ) → 0 < 10 ^ k
ten_pos k = let one : 10 ^ 0 ≤ 10 ^ k = ten_mono 0 k (omega arith) in omega arith

pub ten_suc : (k : ℕ) → 10 ^ (k + 1) ≡ 10 ^ k * 10
ten_suc k = rw add-one (pow-suc 10 k)

pub power_below : (a j k : ℕ) → a * 10 ^ j < a * 10 ^ k → j < k
power_below a j k h =
    lt_of_not-le (λ (g : k ≤ j). lt_irrefl (a * 10 ^ j) (omega (arith, mul-le-mul_left a (ten_mono k j g))))

-- The next digit.
pub more_digits : (whole p all under over digit rest : ℕ) → whole * p ≡ all * under + over → over * 10 ≡ digit * under + rest → whole * (p * 10) ≡ (all * 10 + digit) * under + rest
more_digits whole p all under over digit rest e f = omega arith

-- Sixteen digits and one more are a number of 64 bits.
pub few_digits : (all k : ℕ) → all < 10 ^ k → k ≤ 16 → all < 10 ^ 16
few_digits all k h l = lt_of_lt_of_le h (ten_mono k 16 l)

pub ten_after : (k : ℕ) → 1 ≤ k → 10 ^ (k + 1 - 1) ≡ 10 ^ (k - 1) * 10
ten_after k h = let e : k + 1 - 1 ≡ k - 1 + 1 = omega arith in ap (λ x. 10 ^ x) e ∙ ten_suc (k - 1)
