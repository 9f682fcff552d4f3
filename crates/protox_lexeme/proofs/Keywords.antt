-- The table in which keywords are looked up.
use Rattle.std.proofs.Common.{◌≡◌, ◌<◌, ◌≤◌, ℕ, suc, Bool, true, false, ◌&&◌, inl, inr, List, [], ◌∷◌, length, eqb, refl, sym, ap, ◌∙◌, arith}
use Rattle.std.proofs.lemmas.Bool.{cases_Bool, cases_lt, eqb-true, and_parts}
use Rattle.std.specs.Prelude.{slice_index_or}
use Rattle.std.specs.Str.{bytes_eq}
use Rattle.std.proofs.lemmas.Slice.Eq.{bytes_eq-Decides}
use Rattle.protox_lexeme.specs.TokenClass.{keywords, place}
use Rattle.protox_lexeme.specs.inner.WordSlot.{candidate}
use Rattle.protox_lexeme.proofs.ByteTable.{agree_below, agree_at}

abbrev pub keyword : ℕ → List ℕ
keyword k = slice_index_or keywords k []

-- The table gives for a keyword its own index.
abbrev is_right : ℕ → Bool
is_right k = eqb (candidate (keyword k)) k && eqb (place keywords (keyword k)) k

all-right : (k : ℕ) → k < 38 → is_right k ≡ true
unfolding agree_below
all-right k l = agree_at is_right (λ n. true) 38 k refl l

found-right : (k : ℕ) → k < 38 → candidate (keyword k) ≡ k
found-right k l = let (here, there) = and_parts _ _ (all-right k l) in eqb-true _ _ here

place-right : (k : ℕ) → k < 38 → place keywords (keyword k) ≡ k
place-right k l = let (here, there) = and_parts _ _ (all-right k l) in eqb-true _ _ there

pub bytes-same : (t w : List ℕ) → bytes_eq t w ≡ true → t ≡ w
bytes-same t w e = (bytes_eq-Decides t w).0 e

place-within : (ws : List (List ℕ)) (t : List ℕ) → place ws t ≤ length ws
place-within [] t = omega arith
place-within (w ∷ ws) t = elim (cases_Bool (bytes_eq t w)) [
  | inl same ↦ rw same (omega arith)
  | inr other ↦ let below = place-within ws t in rw other (omega (arith, below))
]

place-same : (ws : List (List ℕ)) (t : List ℕ) (k : ℕ) → place ws t ≡ k → k < length ws → t ≡ slice_index_or ws k []
place-same [] t k e l = absurd (omega arith)
place-same (w ∷ ws) t k e l = elim (cases_Bool (bytes_eq t w)) [
  | inl same ↦
      let here : place (w ∷ ws) t ≡ 0 = rw same refl in
      let none : k ≡ 0 = sym e ∙ here in
      rw none (bytes-same t w same)
  | inr other ↦
      let there : place (w ∷ ws) t ≡ suc (place ws t) = rw other refl in
      let more : k ≡ suc (place ws t) = sym e ∙ there in
      rw more (place-same ws t (place ws t) refl (omega (arith, l, more)))
]

-- The word that the table gives.
pub keyword-found : (t : List ℕ) (k : ℕ) → k < 38 → t ≡ keyword k → k ≡ place keywords t
keyword-found t k l e = sym (ap (place keywords) e ∙ place-right k l)

-- A word for which the table gives another word, or none.
pub none-found : (t : List ℕ) (k : ℕ) → k ≡ candidate t → (k < 38 → t ≡ keyword k → ⊥) → 38 ≡ place keywords t
none-found t k e never = elim (cases_lt (place keywords t) 38) [
  | inl below ↦
      let is : t ≡ keyword (place keywords t) = place-same keywords t (place keywords t) refl below in
      let at : k ≡ place keywords t = e ∙ ap candidate is ∙ found-right (place keywords t) below in
      absurd (never (omega (arith, at, below)) (is ∙ ap keyword (sym at)))
  | inr above ↦ (let most = place-within keywords t in omega (arith, most, above))
]

pub bytes-other : (t w : List ℕ) → bytes_eq t w ≡ false → t ≡ w → ⊥
bytes-other t w e same = let is : bytes_eq t w ≡ true = (bytes_eq-Decides t w).1 same in absurd cc
