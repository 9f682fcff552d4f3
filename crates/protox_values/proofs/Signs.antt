-- Integers within limits, and what is read of their bits.
use Rattle.std.proofs.Common.{◌≡◌, ℕ, suc, ◌+◌, ◌-◌, ◌*◌, ◌/◌, ◌%◌, ◌^◌, ◌<◌, nat_lt, ℤ, pos, negsuc, true, refl, ap, ◌∙◌, arith}
use Rattle.std.specs.Int.{w32, w64, cast_signed, cast_unsigned}
use Rattle.std.proofs.lemmas.Bool.{false≢true}
use Rattle.std.proofs.lemmas.Bool.Decides.{nat_tests}
use Rattle.std.proofs.lemmas.Int.{ints}
use Rattle.protox_values.specs.Values.{fits_signed}
use Rattle.protox_values.specs.Wire.{fits_unsigned, zigzag, unzigzag}

pub below : (n limit : ℕ) → nat_lt n limit ≡ true → n < limit
below n limit h = grind (arith, nat_tests)

-- ---- what is read of the bits

pub signed_32 : (n : ℤ) → fits_signed (2 ^ 31) n ≡ true → cast_signed w32 (cast_unsigned w64 n % 2 ^ 32) ≡ n
signed_32 (pos n) h = let low : n < 2 ^ 31 = below n (2 ^ 31) h in omega (arith, ints)
signed_32 (negsuc n) h =
    let low : n < 2 ^ 31 = below n (2 ^ 31) h in
    let bits : (2 ^ 64 - suc n) % 2 ^ 32 ≡ 2 ^ 32 - suc n = omega arith in
    let back : cast_signed w32 (cast_unsigned w32 (negsuc n)) ≡ negsuc n = omega (arith, ints) in
    ap (cast_signed w32) bits ∙ back

pub signed_64 : (n : ℤ) → fits_signed (2 ^ 63) n ≡ true → cast_signed w64 (cast_unsigned w64 n) ≡ n
signed_64 (pos n) h = let low : n < 2 ^ 63 = below n (2 ^ 63) h in omega (arith, ints)
signed_64 (negsuc n) h = let low : n < 2 ^ 63 = below n (2 ^ 63) h in omega (arith, ints)

pub unsigned_32 : (n : ℕ) → n < 2 ^ 32 → n % 2 ^ 32 ≡ n
unsigned_32 n h = omega arith

even : (n : ℕ) → unzigzag (2 * n) ≡ pos n
even n =
    let rest : (2 * n) % 2 ≡ 0 = omega arith in
    let half : (2 * n) / 2 ≡ n = omega arith in
    rw (rest, half) refl

odd : (n : ℕ) → unzigzag (2 * n + 1) ≡ negsuc n
odd n =
    let rest : (2 * n + 1) % 2 ≡ 1 = omega arith in
    let half : (2 * n + 1) / 2 ≡ n = omega arith in
    rw (rest, half) refl

pub zigzag_64 : (n : ℤ) → unzigzag (zigzag n) ≡ n
zigzag_64 (pos n) = even n
zigzag_64 (negsuc n) = odd n

pub zigzag_32 : (n : ℤ) → fits_signed (2 ^ 31) n ≡ true → unzigzag (zigzag n % 2 ^ 32) ≡ n
zigzag_32 (pos n) h =
    let low : n < 2 ^ 31 = below n (2 ^ 31) h in
    let whole : (2 * n) % 2 ^ 32 ≡ 2 * n = omega arith in
    ap unzigzag whole ∙ even n
zigzag_32 (negsuc n) h =
    let low : n < 2 ^ 31 = below n (2 ^ 31) h in
    let whole : (2 * n + 1) % 2 ^ 32 ≡ 2 * n + 1 = omega arith in
    ap unzigzag whole ∙ odd n

-- ---- numbers without a sign

module _ (limit : ℕ) where
  -- A number without a sign that fits.
  pub natural : (P : ℤ → Type 0) (n : ℤ) → fits_unsigned limit n ≡ true → ((m : ℕ) → m < limit → P (pos m)) → P n
  natural P (pos m) h each = each m (below m limit h)
  natural P (negsuc m) h each = absurd (false≢true h)
