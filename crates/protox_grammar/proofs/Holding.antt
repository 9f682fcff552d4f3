-- Some element of a list.
use Rattle.std.proofs.Common.{◌≡◌, ◌<◌, ℕ, zero, suc, List, [], ◌∷◌, ◌++◌, length, slice_index_or, refl, sym, subst, arith, inl, inr, ◌⊎◌}
use Rattle.std.specs.List.{Any}

abbrev pub Holds : {A : Type 0} → (A → Type 0) → List A → Type 0
Holds P [] = ⊥
Holds P (x ∷ xs) = P x ⊎ Holds P xs

pub holds-left : {A : Type 0} (P : A → Type 0) (xs ys : List A) → Holds P xs → Holds P (xs ++ ys)
holds-left P [] ys h = absurd h
holds-left P (x ∷ xs) ys (inl h) = inl h
holds-left P (x ∷ xs) ys (inr h) = inr (holds-left P xs ys h)

pub holds-right : {A : Type 0} (P : A → Type 0) (xs ys : List A) → Holds P ys → Holds P (xs ++ ys)
holds-right P [] ys h = h
holds-right P (x ∷ xs) ys h = inr (holds-right P xs ys h)

pub holds-either : {A : Type 0} (P : A → Type 0) (xs ys : List A) → Holds P (xs ++ ys) → Holds P xs ⊎ Holds P ys
holds-either P [] ys h = inr h
holds-either P (x ∷ xs) ys (inl h) = inl (inl h)
holds-either P (x ∷ xs) ys (inr h) = elim (holds-either P xs ys h) [
  | inl k ↦ inl (inr k)
  | inr k ↦ inr k
]

any-at : {A : Type 0} (P : A → Type 0) (xs : List A) (k : ℕ) (x : A) → k < length xs → slice_index_or xs k x ≡ x → P x → Holds P xs
any-at P [] k x l e p = absurd (omega (arith, l))
any-at P (y ∷ ys) zero x l e p = inl (subst P (sym e) p)
any-at P (y ∷ ys) (suc k) x l e p = inr (any-at P ys k x (omega (arith, l)) e p)

pub any-holds : {A : Type 0} (P : A → Type 0) (xs : List A) → Any P xs → Holds P xs
any-holds P xs h = any-at P xs h.0 h.1 h.2 h.3 h.4

pub holds-any : {A : Type 0} (P : A → Type 0) (xs : List A) → Holds P xs → Any P xs
holds-any P [] h = absurd h
holds-any P (x ∷ xs) (inl h) = (0, x, omega arith, refl, h)
holds-any P (x ∷ xs) (inr h) = let a = holds-any P xs h in (suc a.0, a.1, omega (arith, a.2), a.3, a.4)

-- one of them
pub holds-one : {A : Type 0} (P : A → Type 0) (xs : List A) → Holds P xs → (x : A) × P x × Holds (λ u. u ≡ x) xs
holds-one P [] h = absurd h
holds-one P (x ∷ xs) (inl h) = (x, h, inl refl)
holds-one P (x ∷ xs) (inr h) = let v = holds-one P xs h in (v.0, v.1, inr v.2)

pub holds-of : {A : Type 0} (P : A → Type 0) (x : A) (xs : List A) → P x → Holds (λ u. u ≡ x) xs → Holds P xs
holds-of P x [] p h = absurd h
holds-of P x (y ∷ ys) p (inl h) = inl (subst P (sym h) p)
holds-of P x (y ∷ ys) p (inr h) = inr (holds-of P x ys p h)
