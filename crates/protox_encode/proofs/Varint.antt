-- The groups of a number.
use Rattle.std.proofs.Common.{◌≡◌, ℕ, zero, suc, ◌+◌, ◌/◌, ◌%◌, ◌^◌, ◌<◌, ◌≤◌, [], ◌∷◌, refl, sym, ap, ◌∙◌, arith, true, false, Bool}
use Rattle.std.specs.Prelude.{nat_lt}
use Rattle.std.proofs.Math.Nat.{pow-succ'}
use Rattle.std.proofs.lemmas.Bool.Decides.{nat_tests}
use Rattle.protox_encode.specs.Wire.{varint, varint_within}

pub within_one : (k n : ℕ) → n < 128 → varint_within (suc k) n ≡ n ∷ []
unfolding varint_within
within_one k n h = grind (arith, nat_tests)

pub within_split : (k n : ℕ) → 128 ≤ n → varint_within (suc k) n ≡ (128 + n % 128) ∷ varint_within k (n / 128)
unfolding varint_within
within_split k n h = grind (arith, nat_tests)

pub less : (k n : ℕ) → n < 128 ^ suc k → n / 128 < 128 ^ k
less k n h = omega (arith, pow-succ' 128 k)

-- A number that fits in this many groups has no more.
pub either : {P : Type 0} (n : ℕ) → (n < 128 → P) → (128 ≤ n → P) → P
either {P} n low high = at (nat_lt n 128) refl
  where
    at : (b : Bool) → nat_lt n 128 ≡ b → P
    at true e = low (grind (arith, nat_tests))
    at false e = high (grind (arith, nat_tests))

within_more : (k n : ℕ) → n < 128 ^ suc k → varint_within (suc k) n ≡ varint_within (suc (suc k)) n
within_more zero n h = within_one 0 n (omega arith) ∙ sym (within_one 1 n (omega arith))
within_more (suc k) n h = either n
    (λ low. within_one (suc k) n low ∙ sym (within_one (suc (suc k)) n low))
    (λ high. within_split (suc k) n high ∙ ap (λ bytes. (128 + n % 128) ∷ bytes) (within_more k (n / 128) (less (suc k) n h)) ∙ sym (within_split (suc (suc k)) n high))

within_step : (k n : ℕ) → n < 128 ^ suc (suc k) → 128 ≤ n → varint_within (suc (suc k)) n ≡ (128 + n % 128) ∷ varint_within (suc (suc k)) (n / 128)
within_step k n h l = within_split (suc k) n l ∙ ap (λ bytes. (128 + n % 128) ∷ bytes) (within_more k (n / 128) (less (suc k) n h))

pub one_group : (n : ℕ) → n < 128 → varint n ≡ n ∷ []
unfolding varint
one_group n h = within_one 9 n h

pub more_groups : (n : ℕ) → n < 2 ^ 64 → 128 ≤ n → varint n ≡ (128 + n % 128) ∷ varint (n / 128)
unfolding varint
more_groups n h l = within_step 8 n (omega arith) l
