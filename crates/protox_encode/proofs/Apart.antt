-- No encoded number is the beginning of another.
use Rattle.std.proofs.Common.{◌≡◌, ℕ, zero, suc, ◌+◌, ◌/◌, ◌%◌, ◌<◌, ◌≤◌, List, ◌∷◌, ◌++◌, refl, sym, ◌∙◌, arith}
use Rattle.protox_encode.proofs.Varint.{within_one, within_split, either}
use Rattle.protox_encode.specs.Reading.{NumbersAreApart}
use Rattle.protox_encode.specs.Wire.{varint, varint_within}

heads : (a b : ℕ) (x y : List ℕ) → a ∷ x ≡ b ∷ y → (a ≡ b) × (x ≡ y)
heads a b x y h = (cc, cc)

pub one : (k n : ℕ) (x : List ℕ) → n < 128 → varint_within (suc k) n ++ x ≡ n ∷ x
one k n x h = rw (within_one k n h) refl

pub more : (k n : ℕ) (x : List ℕ) → 128 ≤ n → varint_within (suc k) n ++ x ≡ (128 + n % 128) ∷ (varint_within k (n / 128) ++ x)
more k n x h = rw (within_split k n h) refl

-- Two numbers with the same lowest group are the same, if the numbers above that group are.
grown : (m n : ℕ) {P : Type 0} → 128 + m % 128 ≡ 128 + n % 128 → (m / 128 ≡ n / 128) × P → (m ≡ n) × P
grown m n e h = (omega (arith, h.0), h.1)

apart_within : (k m n : ℕ) (x y : List ℕ) → varint_within k m ++ x ≡ varint_within k n ++ y → (m ≡ n) × (x ≡ y)
unfolding varint_within
apart_within zero m n x y e = heads m n x y e
apart_within (suc l) m n x y e = either m
    (λ (low : m < 128). either n
    (λ (low' : n < 128). heads m n x y (sym (one l m x low) ∙ e ∙ one l n y low'))
    (λ (high' : 128 ≤ n). let s : (m ≡ 128 + n % 128) × (x ≡ varint_within l (n / 128) ++ y) = heads m (128 + n % 128) x _ (sym (one l m x low) ∙ e ∙ more l n y high') in absurd (omega (arith, s.0))))
    (λ (high : 128 ≤ m). either n
    (λ (low' : n < 128). let s : (128 + m % 128 ≡ n) × (varint_within l (m / 128) ++ x ≡ y) = heads (128 + m % 128) n _ y (sym (more l m x high) ∙ e ∙ one l n y low') in absurd (omega (arith, s.0)))
    (λ (high' : 128 ≤ n).
    let s : (128 + m % 128 ≡ 128 + n % 128) × (varint_within l (m / 128) ++ x ≡ varint_within l (n / 128) ++ y) = heads (128 + m % 128) (128 + n % 128) _ _ (sym (more l m x high) ∙ e ∙ more l n y high') in
    grown m n s.0 (apart_within l (m / 128) (n / 128) x y s.1)))

pub numbers_are_apart_law : NumbersAreApart
unfolding varint
numbers_are_apart_law m n x y e = apart_within 10 m n x y e
