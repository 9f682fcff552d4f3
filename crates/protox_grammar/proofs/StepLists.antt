-- Lists of steps, cut after a number of rows.
use Rattle.std.proofs.Common.{◌≡◌, ℕ, zero, suc, ◌+◌, ◌<◌, ◌≤◌, Bool, true, false, ◌||◌, cond, List, [], ◌∷◌, ◌++◌, length, take, refl, sym, ap, subst, ◌∙◌, arith, inl, inr, ◌⊎◌}
use Rattle.protox_lexeme.specs.Shapes.{Rows}
use Rattle.protox_grammar.specs.Steps.{Event, Token, Note, Steps, is_too_deep, tokens, plainly, until, has_deep}

-- The first step is no note.
abbrev pub Quiet : {M : Type 0} → Steps M → Type 0
Quiet [] = Unit {0}
Quiet (Token r ∷ l) = Unit {0}
Quiet (Note e ∷ l) = ⊥

pub until-quiet : {M : Type 0} (l : Steps M) → Quiet l → until 0 l ≡ []
until-quiet [] h = refl
until-quiet (Token r ∷ l) h = refl
until-quiet (Note e ∷ l) h = absurd h

pub quiet-append : {M : Type 0} (l k : Steps M) → Quiet l → Quiet k → Quiet (l ++ k)
quiet-append [] k h g = g
quiet-append (Token r ∷ l) k h g = tt
quiet-append (Note e ∷ l) k h g = absurd h

pub quiet-front : {M : Type 0} (l k : Steps M) → Quiet (l ++ k) → Quiet l
quiet-front [] k h = tt
quiet-front (Token r ∷ l) k h = tt
quiet-front (Note e ∷ l) k h = absurd h

pub tokens-append : {M : Type 0} (l k : Steps M) → tokens (l ++ k) ≡ tokens l ++ tokens k
tokens-append [] k = refl
tokens-append (Token r ∷ l) k = ap (λ v. r ∷ v) (tokens-append l k)
tokens-append (Note e ∷ l) k = tokens-append l k

pub tokens-plainly : {M : Type 0} (rs : Rows M) → tokens (plainly rs) ≡ rs
tokens-plainly [] = refl
tokens-plainly (r ∷ rs) = ap (λ v. r ∷ v) (tokens-plainly rs)

pub plainly-append : {M : Type 0} (rs qs : Rows M) → plainly (rs ++ qs) ≡ plainly rs ++ plainly qs
plainly-append [] qs = refl
plainly-append (r ∷ rs) qs = ap (λ v. Token r ∷ v) (plainly-append rs qs)

pub plainly-quiet : {M : Type 0} (rs : Rows M) → Quiet (plainly rs)
plainly-quiet [] = tt
plainly-quiet (r ∷ rs) = tt

-- What follows after n rows doesn't matter.
pub until-past : {M : Type 0} (n : ℕ) (l k : Steps M) → n ≤ length (tokens l) → Quiet k → until n (l ++ k) ≡ until n l
until-past zero [] k h q = until-quiet k q
until-past (suc n) [] k h q = absurd (omega (arith, h))
until-past zero (Token r ∷ l) k h q = refl
until-past (suc n) (Token r ∷ l) k h q = ap (λ v. Token r ∷ v) (until-past n l k (omega (arith, h)) q)
until-past zero (Note e ∷ l) k h q = ap (λ v. Note e ∷ cond (is_too_deep e) [] v) (until-past zero l k h q)
until-past (suc n) (Note e ∷ l) k h q = ap (λ v. Note e ∷ cond (is_too_deep e) [] v) (until-past (suc n) l k h q)

pub until-long : {M : Type 0} (n : ℕ) (l k : Steps M) → n < length (tokens l) → until n (l ++ k) ≡ until n l
until-long n [] k h = absurd (omega (arith, h))
until-long zero (Token r ∷ l) k h = refl
until-long (suc n) (Token r ∷ l) k h = ap (λ v. Token r ∷ v) (until-long n l k (omega (arith, h)))
until-long zero (Note e ∷ l) k h = ap (λ v. Note e ∷ cond (is_too_deep e) [] v) (until-long zero l k h)
until-long (suc n) (Note e ∷ l) k h = ap (λ v. Note e ∷ cond (is_too_deep e) [] v) (until-long (suc n) l k h)

pub until-note : {M : Type 0} (n : ℕ) (e : Event M) (l : Steps M) → until n (Note e ∷ l) ≡ Note e ∷ cond (is_too_deep e) [] (until n l)
until-note zero e l = refl
until-note (suc n) e l = refl

-- After the same steps.
pub until-same : {M : Type 0} (l k j : Steps M) (n total : ℕ) → total ≡ length (tokens l) + n → until n k ≡ until n j → until total (l ++ k) ≡ until total (l ++ j)
until-same [] k j n total e h = let same : total ≡ n = omega (arith, e) in subst (λ v. until v k ≡ until v j) (sym same) h
until-same (Token r ∷ l) k j n zero e h = absurd (omega (arith, e))
until-same (Token r ∷ l) k j n (suc total) e h = ap (λ v. Token r ∷ v) (until-same l k j n total (omega (arith, e)) h)
until-same (Note e ∷ l) k j n total q h =
    until-note total e (l ++ k) ∙ ap (λ v. Note e ∷ cond (is_too_deep e) [] v) (until-same l k j n total q h) ∙ sym (until-note total e (l ++ j))

under-deep : {M : Type 0} (e : Event M) (l k : Steps M) (b : Bool) → (has_deep l ≡ true → k ≡ l) → b || has_deep (cond b [] l) ≡ true → Note e ∷ cond b [] k ≡ Note e ∷ cond b [] l
under-deep e l k true f g = refl
under-deep e l k false f g = ap (λ v. Note e ∷ v) (f g)

pub deep-until : {M : Type 0} (n : ℕ) (l k : Steps M) → has_deep (until n l) ≡ true → until n (l ++ k) ≡ until n l
deep-until zero [] k h = absurd cc
deep-until (suc n) [] k h = absurd cc
deep-until zero (Token r ∷ l) k h = absurd cc
deep-until (suc n) (Token r ∷ l) k h = ap (λ v. Token r ∷ v) (deep-until n l k h)
deep-until n (Note e ∷ l) k h =
    until-note n e (l ++ k) ∙ under-deep e (until n l) (until n (l ++ k)) (is_too_deep e) (λ g. deep-until n l k g) (subst (λ v. has_deep v ≡ true) (until-note n e l) h) ∙ sym (until-note n e l)

-- A body that is too deep stands after n rows, or before.
or-deep : {M : Type 0} (n : ℕ) (l k : Steps M) (b : Bool) → (has_deep l ≡ true → (has_deep k ≡ true) ⊎ (length (tokens k) ≡ n)) → b || has_deep l ≡ true
    → (b || has_deep (cond b [] k) ≡ true) ⊎ (length (tokens (cond b [] k)) ≡ n)
or-deep n l k true f g = inl refl
or-deep n l k false f g = f g

pub deep-or : {M : Type 0} (n : ℕ) (l : Steps M) → has_deep l ≡ true → (has_deep (until n l) ≡ true) ⊎ (length (tokens (until n l)) ≡ n)
deep-or n [] h = absurd cc
deep-or zero (Token r ∷ l) h = inr refl
deep-or (suc n) (Token r ∷ l) h = elim (deep-or n l h) [
  | inl g ↦ inl g
  | inr g ↦ inr (ap suc g)
]
deep-or n (Note e ∷ l) h = subst (λ v. (has_deep v ≡ true) ⊎ (length (tokens v) ≡ n)) (sym (until-note n e l)) (or-deep n l (until n l) (is_too_deep e) (λ g. deep-or n l g) h)

pub has_deep-first : {M : Type 0} (l k : Steps M) → has_deep k ≡ true → has_deep (l ++ k) ≡ true
has_deep-first [] k h = h
has_deep-first (Token r ∷ l) k h = has_deep-first l k h
has_deep-first (Note e ∷ l) k h = or-true (is_too_deep e) (has_deep-first l k h)
  where
    or-true : (b : Bool) {c : Bool} → c ≡ true → b || c ≡ true
    or-true true h = refl
    or-true false h = h

fewer-under : {M : Type 0} (l k : Steps M) (b : Bool) → length (tokens k) ≤ length (tokens l) → length (tokens (cond b [] k)) ≤ length (tokens l)
fewer-under l k true h = omega arith
fewer-under l k false h = h

pub until-fewer : {M : Type 0} (n : ℕ) (l : Steps M) → length (tokens (until n l)) ≤ length (tokens l)
until-fewer zero [] = omega arith
until-fewer (suc n) [] = omega arith
until-fewer zero (Token r ∷ l) = omega arith
until-fewer (suc n) (Token r ∷ l) = omega (arith, until-fewer n l)
until-fewer n (Note e ∷ l) = subst (λ v. length (tokens v) ≤ length (tokens l)) (sym (until-note n e l)) (fewer-under l (until n l) (is_too_deep e) (until-fewer n l))

-- ---- two cuts of one list

abbrev pub Apart : {A : Type 0} → List A → List A → List A → List A → Type 0
Apart {A} ys z fs more = ((s : A) × (gs : List A) × (fs ≡ ys ++ (s ∷ gs)) × (z ≡ (s ∷ gs) ++ more)) ⊎ (((ys ≡ fs) × (z ≡ more)) ⊎ (length fs < length ys))

pub apart-of : {A : Type 0} (ys z fs more : List A) → ys ++ z ≡ fs ++ more → Apart ys z fs more
apart-of [] z [] more e = inr (inl (refl, e))
apart-of [] z (f ∷ fs) more e = inl (f, fs, refl, e)
apart-of (y ∷ ys) z [] more e = inr (inr (omega arith))
apart-of {A} (y ∷ ys) z (f ∷ fs) more e =
    let h = heads y f (ys ++ z) (fs ++ more) e in
    elim (apart-of ys z fs more h.1) [
      | inl k ↦ inl (k.0, k.1, joined f y fs (ys ++ (k.0 ∷ k.1)) (sym h.0) k.2, k.3)
      | inr k ↦ elim k [
        | inl j ↦ inr (inl (joined y f ys fs h.0 j.0, j.1))
        | inr j ↦ inr (inr (omega (arith, j)))
      ]
    ]
  where
    heads : (y f : A) (ys fs : List A) → y ∷ ys ≡ f ∷ fs → (y ≡ f) × (ys ≡ fs)
    heads y f ys fs e = (cc, cc)

    joined : (y f : A) (ys fs : List A) → y ≡ f → ys ≡ fs → y ∷ ys ≡ f ∷ fs
    joined y f ys fs p q = cc

pub take-front : {A : Type 0} (n : ℕ) (ys zs : List A) → n ≡ length ys → take n (ys ++ zs) ≡ ys
take-front zero [] zs h = take-none zs
  where
    take-none : {A : Type 0} (zs : List A) → take 0 zs ≡ []
    take-none [] = refl
    take-none (z ∷ zs) = refl
take-front zero (y ∷ ys) zs h = absurd (omega (arith, h))
take-front (suc n) [] zs h = absurd (omega (arith, h))
take-front (suc n) (y ∷ ys) zs h = ap (λ v. y ∷ v) (take-front n ys zs (omega (arith, h)))

-- ---- cuts of cuts

-- Nothing follows a body that is too deep.
abbrev pub EndsDeep : {M : Type 0} → Steps M → Type 0
EndsDeep [] = Unit {0}
EndsDeep (Token r ∷ l) = EndsDeep l
EndsDeep (Note e ∷ l) = (is_too_deep e ≡ true → l ≡ []) × EndsDeep l

not-both : (b : Bool) → b ≡ true → b ≡ false → ⊥
not-both true q h = absurd cc
not-both false q h = absurd cc

pub until-ends : {M : Type 0} (n : ℕ) (l : Steps M) → EndsDeep (until n l)
until-ends zero [] = tt
until-ends (suc n) [] = tt
until-ends zero (Token r ∷ l) = tt
until-ends (suc n) (Token r ∷ l) = until-ends n l
until-ends n (Note e ∷ l) = subst EndsDeep (sym (until-note n e l)) (under e (is_too_deep e) refl (until n l) (until-ends n l))
  where
    under : {M : Type 0} (e : Event M) (b : Bool) → is_too_deep e ≡ b → (k : Steps M) → EndsDeep k → EndsDeep (Note e ∷ cond b [] k)
    under e true h k g = (λ q. refl, tt)
    under e false h k g = (λ q. absurd (not-both (is_too_deep e) q h), g)

pub deep-whole : {M : Type 0} (n : ℕ) (l : Steps M) → EndsDeep l → has_deep (until n l) ≡ true → until n l ≡ l
deep-whole zero [] g h = refl
deep-whole (suc n) [] g h = refl
deep-whole zero (Token r ∷ l) g h = absurd cc
deep-whole (suc n) (Token r ∷ l) g h = ap (λ v. Token r ∷ v) (deep-whole n l g h)
deep-whole n (Note e ∷ l) g h = until-note n e l ∙ under e (is_too_deep e) refl (until n l) l g.0 (λ q. deep-whole n l g.1 q) (subst (λ v. has_deep v ≡ true) (until-note n e l) h)
  where
    under : {M : Type 0} (e : Event M) (b : Bool) → is_too_deep e ≡ b → (k l : Steps M) → (is_too_deep e ≡ true → l ≡ []) → (has_deep k ≡ true → k ≡ l) → is_too_deep e || has_deep (cond b [] k) ≡ true → Note e ∷ cond b [] k ≡ Note e ∷ l
    under e true h k l f w q = ap (λ v. Note e ∷ v) (sym (f h))
    under e false h k l f w q = ap (λ v. Note e ∷ v) (w (ap (λ v. v || has_deep k) (sym h) ∙ q))

pub until-until : {M : Type 0} (j n : ℕ) (l : Steps M) → j ≤ n → until j (until n l) ≡ until j l
until-until j zero [] h = refl
until-until j (suc n) [] h = refl
until-until zero zero (Token r ∷ l) h = refl
until-until (suc j) zero (Token r ∷ l) h = absurd (omega (arith, h))
until-until zero (suc n) (Token r ∷ l) h = refl
until-until (suc j) (suc n) (Token r ∷ l) h = ap (λ v. Token r ∷ v) (until-until j n l (omega (arith, h)))
until-until j n (Note e ∷ l) h = ap (until j) (until-note n e l) ∙ until-note j e (cond (is_too_deep e) [] (until n l)) ∙ ap (λ v. Note e ∷ v) (under (is_too_deep e) (until-until j n l h)) ∙ sym (until-note j e l)
  where
    under : (b : Bool) → until j (until n l) ≡ until j l → cond b [] (until j (cond b [] (until n l))) ≡ cond b [] (until j l)
    under true g = refl
    under false g = g

pub until-at-most : {M : Type 0} (n : ℕ) (l : Steps M) → length (tokens (until n l)) ≤ n
until-at-most zero [] = omega arith
until-at-most (suc n) [] = omega arith
until-at-most zero (Token r ∷ l) = omega arith
until-at-most (suc n) (Token r ∷ l) = omega (arith, until-at-most n l)
until-at-most n (Note e ∷ l) = subst (λ v. length (tokens v) ≤ n) (sym (until-note n e l)) (most (is_too_deep e) (until n l) (until-at-most n l))
  where
    most : {M : Type 0} (b : Bool) (k : Steps M) → length (tokens k) ≤ n → length (tokens (cond b [] k)) ≤ n
    most true k h = omega arith
    most false k h = h

-- Steps that are cut are the beginning of the steps.
pub until-front : {M : Type 0} (n : ℕ) (l : Steps M) → (k : Steps M) × (l ≡ until n l ++ k)
until-front zero [] = ([], refl)
until-front (suc n) [] = ([], refl)
until-front zero (Token r ∷ l) = (Token r ∷ l, refl)
until-front (suc n) (Token r ∷ l) = let v = until-front n l in (v.0, ap (λ u. Token r ∷ u) v.1)
until-front {M} n (Note e ∷ l) = subst (λ u. (k : Steps M) × (Note e ∷ l ≡ u ++ k)) (sym (until-note n e l)) (under e (is_too_deep e) l (until n l) (until-front n l))
  where
    under : {M : Type 0} (e : Event M) (b : Bool) (l c : Steps M) → (k : Steps M) × (l ≡ c ++ k) → (k : Steps M) × (Note e ∷ l ≡ (Note e ∷ cond b [] c) ++ k)
    under e true l c v = (l, refl)
    under e false l c v = (v.0, ap (λ u. Note e ∷ u) v.1)

-- ---- a body that is too deep only at the end

neither : (b c : Bool) → b || c ≡ false → (b ≡ false) × (c ≡ false)
neither true c h = absurd cc
neither false c h = (refl, h)

pub shallow-ends : {M : Type 0} (l : Steps M) → has_deep l ≡ false → EndsDeep l
shallow-ends [] h = tt
shallow-ends (Token r ∷ l) h = shallow-ends l h
shallow-ends (Note e ∷ l) h = let p = neither (is_too_deep e) (has_deep l) h in (λ q. absurd (not-both (is_too_deep e) q p.0), shallow-ends l p.1)

pub deep-behind : {M : Type 0} (l k : Steps M) → has_deep l ≡ false → has_deep (l ++ k) ≡ has_deep k
deep-behind [] k h = refl
deep-behind (Token r ∷ l) k h = deep-behind l k h
deep-behind (Note e ∷ l) k h = let p = neither (is_too_deep e) (has_deep l) h in (λ i. p.0 i || has_deep (l ++ k)) ∙ deep-behind l k p.1

pub ends-behind : {M : Type 0} (l k : Steps M) → has_deep l ≡ false → EndsDeep k → EndsDeep (l ++ k)
ends-behind [] k h g = g
ends-behind (Token r ∷ l) k h g = ends-behind l k h g
ends-behind (Note e ∷ l) k h g = let p = neither (is_too_deep e) (has_deep l) h in (λ q. absurd (not-both (is_too_deep e) q p.0), ends-behind l k p.1 g)

pub plainly-shallow : {M : Type 0} (xs : Rows M) → has_deep (plainly xs) ≡ false
plainly-shallow [] = refl
plainly-shallow (x ∷ xs) = plainly-shallow xs

-- If all rows are taken, the beginning is the whole.
pub until-all : {M : Type 0} (n : ℕ) (l : Steps M) → length (tokens l) ≤ n → EndsDeep l → until n l ≡ l
until-all zero [] h g = refl
until-all (suc n) [] h g = refl
until-all zero (Token r ∷ l) h g = absurd (omega (arith, h))
until-all (suc n) (Token r ∷ l) h g = ap (λ v. Token r ∷ v) (until-all n l (omega (arith, h)) g)
until-all n (Note e ∷ l) h g = until-note n e l ∙ ap (λ v. Note e ∷ v) (under e (is_too_deep e) l (until n l) g.0 (until-all n l h g.1))
  where
    under : {M : Type 0} (e : Event M) (b : Bool) (l k : Steps M) → (b ≡ true → l ≡ []) → k ≡ l → cond b [] k ≡ l
    under e true l k f q = sym (f refl)
    under e false l k f q = q
