-- Facts about every byte, which are computed at each of the 256.
use Rattle.std.proofs.Common.{◌≡◌, ℕ, zero, suc, ◌<◌, Bool, true, false, ◌&&◌, refl, arith, inl, inr, subst, sym}
use Rattle.std.proofs.lemmas.Bool.{cases_eq, and_parts}
use Rattle.std.specs.Bool.{beq}

-- the two tests agree on all numbers below one
unfoldable pub agree_below : (ℕ → Bool) → (ℕ → Bool) → ℕ → Bool
agree_below p q zero = true
agree_below p q (suc n) = beq (p n) (q n) && agree_below p q n

same : (x y : Bool) → beq x y ≡ true → x ≡ y
same true true e = refl
same true false e = cc
same false true e = cc
same false false e = refl

pub agree_at : (p q : ℕ → Bool) (n b : ℕ) → agree_below p q n ≡ true → b < n → p b ≡ q b
unfolding agree_below
agree_at p q zero b e l = absurd (omega arith)
agree_at p q (suc n) b e l =
    let (here, below) = and_parts (beq (p n) (q n)) (agree_below p q n) e in
    let P : ℕ → Type 0 = λ k. p k ≡ q k in
    elim (cases_eq b n) [
      | inl last ↦ subst P (sym last) (same (p n) (q n) here)
      | inr other ↦ agree_at p q n b below (omega arith)
    ]
