-- Numbers are read by the rule of the wire format.
use Rattle.std.proofs.Common.{◌≡◌, ℕ, zero, suc, ◌+◌, ◌*◌, ◌/◌, ◌%◌, ◌^◌, ◌<◌, ◌≤◌, List, [], ◌∷◌, refl, sym, subst, arith}
use Rattle.protox_encode.proofs.Lemmas.{either, less, within_one, within_split}
use Rattle.protox_encode.specs.Wire.{varint, varint_within}
use Rattle.protox_reading.specs.Fields.{IsNumber}
use Rattle.protox_reading.specs.Laws.{NumbersAreRead}

next : (b n high : ℕ) (more : List ℕ) → 128 ≤ b → b < 256 → n + 128 ≡ b + 128 * high → IsNumber more high → IsNumber (b ∷ more) n
next b n high [] low below is d = absurd d
next b n high (c ∷ more) low below is d = (low, below, high, is, d)

within_read : (k n : ℕ) → n < 128 ^ suc k → IsNumber (varint_within k n) n
unfolding varint_within
within_read zero n h = (omega arith, refl)
within_read (suc k) n h = either n
    (λ (low : n < 128). subst (λ bs. IsNumber bs n) (sym (within_one k n low)) (low, refl))
    (λ (high : 128 ≤ n). subst (λ bs. IsNumber bs n) (sym (within_split k n high))
    (next (128 + n % 128) n (n / 128) (varint_within k (n / 128)) (omega arith) (omega arith) (omega arith) (within_read k (n / 128) (less (suc k) n h))))

pub numbers_are_read : NumbersAreRead
unfolding varint
numbers_are_read n h = within_read 10 n (omega (arith, h))
