-- Elements of lists, by recursion on the list.
use Rattle.std.proofs.Common.{◌≡◌, ℕ, zero, suc, ◌<◌, ◌⊎◌, inl, inr, List, [], ◌∷◌, ◌++◌, length, flat_map, Any, Contains, slice_index_or, refl, sym, subst, not-suc-le-zero, le_of_suc-le-suc, suc-le-suc, zero-lt-suc}

abbrev pub Among : {A : Type 0} → List A → A → Type 0
Among [] x = ⊥
Among (y ∷ ys) x = (y ≡ x) ⊎ Among ys x

abbrev pub Somewhere : {A : Type 0} → (A → Type 0) → List A → Type 0
Somewhere P [] = ⊥
Somewhere P (y ∷ ys) = P y ⊎ Somewhere P ys

-- ---- how these definitions relate to those by index

pub somewhere-at : {A : Type 0} (P : A → Type 0) (xs : List A) (k : ℕ) (x : A) → k < length xs → slice_index_or xs k x ≡ x → P x → Somewhere P xs
somewhere-at P [] k x l e p = absurd (not-suc-le-zero l)
somewhere-at P (y ∷ ys) zero x l e p = inl (subst P (sym e) p)
somewhere-at P (y ∷ ys) (suc k) x l e p = inr (somewhere-at P ys k x (le_of_suc-le-suc l) e p)

pub somewhere-from : {A : Type 0} (P : A → Type 0) (xs : List A) → Any P xs → Somewhere P xs
somewhere-from P xs h = somewhere-at P xs h.0 h.1 h.2 h.3 h.4

pub any-from : {A : Type 0} (P : A → Type 0) (xs : List A) → Somewhere P xs → Any P xs
any-from P [] h = absurd h
any-from P (y ∷ ys) (inl p) = (zero, y, zero-lt-suc (length ys), refl, p)
any-from P (y ∷ ys) (inr h) = let r : Any P ys = any-from P ys h in (suc r.0, r.1, suc-le-suc r.2, r.3, r.4)

pub among-at : {A : Type 0} (xs : List A) (k : ℕ) (x : A) → k < length xs → slice_index_or xs k x ≡ x → Among xs x
among-at [] k x l e = absurd (not-suc-le-zero l)
among-at (y ∷ ys) zero x l e = inl e
among-at (y ∷ ys) (suc k) x l e = inr (among-at ys k x (le_of_suc-le-suc l) e)

pub among-from : {A : Type 0} (xs : List A) (x : A) → Contains xs x → Among xs x
among-from xs x h = among-at xs h.0 x h.1 h.2

pub contains-from : {A : Type 0} (xs : List A) (x : A) → Among xs x → Contains xs x
contains-from [] x h = absurd h
contains-from (y ∷ ys) x (inl e) = (zero, zero-lt-suc (length ys), e)
contains-from (y ∷ ys) x (inr h) = let r : Contains ys x = contains-from ys x h in (suc r.0, suc-le-suc r.1, r.2)

-- ---- lists joined

pub among-left : {A : Type 0} (xs ys : List A) (x : A) → Among xs x → Among (xs ++ ys) x
among-left [] ys x h = absurd h
among-left (y ∷ xs) ys x (inl e) = inl e
among-left (y ∷ xs) ys x (inr h) = inr (among-left xs ys x h)

pub among-right : {A : Type 0} (xs ys : List A) (x : A) → Among ys x → Among (xs ++ ys) x
among-right [] ys x h = h
among-right (y ∷ xs) ys x h = inr (among-right xs ys x h)

pub among-cases : {A : Type 0} (xs ys : List A) (x : A) → Among (xs ++ ys) x → Among xs x ⊎ Among ys x
among-cases [] ys x h = inr h
among-cases (y ∷ xs) ys x (inl e) = inl (inl e)
among-cases (y ∷ xs) ys x (inr h) = elim (among-cases xs ys x h) as (λ _. Among (y ∷ xs) x ⊎ Among ys x) [ inl a ↦ inl (inr a) | inr b ↦ inr b ]

-- For elements for which P says that f gives x.
pub among-flat : {A B : Type 0} (P : A → Type 0) (f : A → List B) (x : B) → ((a : A) → P a → Among (f a) x) → (all : List A) → Somewhere P all → Among (flat_map f all) x
among-flat P f x each [] h = absurd h
among-flat P f x each (a ∷ rest) (inl p) = among-left (f a) (flat_map f rest) x (each a p)
among-flat P f x each (a ∷ rest) (inr h) = among-right (f a) (flat_map f rest) x (among-flat P f x each rest h)

pub somewhere-flat : {A B : Type 0} (P : A → Type 0) (f : A → List B) (x : B) → ((a : A) → Among (f a) x → P a) → (all : List A) → Among (flat_map f all) x → Somewhere P all
somewhere-flat P f x each [] h = absurd h
somewhere-flat P f x each (a ∷ rest) h =
    elim (among-cases (f a) (flat_map f rest) x h) as (λ _. Somewhere P (a ∷ rest)) [ inl p ↦ inl (each a p) | inr q ↦ inr (somewhere-flat P f x each rest q) ]
