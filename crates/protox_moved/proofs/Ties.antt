-- Two sorted lists are the same if, whatever the element, both have those that tie with it, in one
-- order.
use Rattle.std.proofs.Common.{◌≡◌, ℕ, zero, suc, ◌+◌, ◌<◌, ◌≤◌, Bool, true, false, not, ◌&&◌, cond, List, [], ◌∷◌, length, get_or, refl, sym, ap, subst, ◌∙◌, arith, inl, inr}
use Rattle.std.specs.Prelude.{⊤}
use Rattle.std.specs.Cmp.{IsStrictWeakOrder}
use Rattle.std.specs.List.{filter}
use Rattle.std.specs.List.Sorted.{IsSortedBy, ties}
use Rattle.std.proofs.lemmas.Bool.{and_parts, cases_Bool, false≢true}

module _ {X : Type 0} (test : X → Bool) (x : X) (xs : List X) where
  pub filter_kept : test x ≡ true → filter test (x ∷ xs) ≡ x ∷ filter test xs
  filter_kept e = ap (λ b. cond b (x ∷ filter test xs) (filter test xs)) e

  pub filter_dropped : test x ≡ false → filter test (x ∷ xs) ≡ filter test xs
  filter_dropped e = ap (λ b. cond b (x ∷ filter test xs) (filter test xs)) e

not_true : (b : Bool) → not b ≡ true → b ≡ false
not_true true e = absurd (false≢true e)
not_true false e = refl

module _ {X : Type 0} (lt : X → X → Bool) where
  -- no element is less than x
  abbrev pub NoneLess : X → List X → Type 0
  NoneLess x [] = ⊤
  NoneLess x (y ∷ ys) = (lt y x ≡ false) × NoneLess x ys

  -- no element is less than one before it
  abbrev pub Up : List X → Type 0
  Up [] = ⊤
  Up (x ∷ xs) = NoneLess x xs × Up xs

  pub ties_parts : (x y : X) → ties lt x y ≡ true → (lt x y ≡ false) × (lt y x ≡ false)
  ties_parts x y e =
      let both = and_parts (not (lt x y)) (not (lt y x)) e in
      (not_true (lt x y) both.0, not_true (lt y x) both.1)

  pub ties_from : (x y : X) → lt x y ≡ false → lt y x ≡ false → ties lt x y ≡ true
  ties_from x y a b = ap (λ c. not c && not (lt y x)) a ∙ ap (λ c. not c) b

  module _ (order : IsStrictWeakOrder lt) where
    pub not_itself : (x : X) → lt x x ≡ false
    not_itself x = elim (cases_Bool (lt x x)) [ inl less ↦ order.one_way x x less | inr not ↦ not ]

    pub self_tie : (x : X) → ties lt x x ≡ true
    self_tie x = ties_from x x (not_itself x) (not_itself x)

    -- what is not less than y is not less than what y is not less than
    pub none_through : (x y : X) (ys : List X) → lt y x ≡ false → NoneLess y ys → NoneLess x ys
    none_through x y [] e n = tt
    none_through x y (z ∷ zs) e n = (order.chain z y x n.0 e, none_through x y zs e n.1)

    next : (x y : X) (ys : List X) (k : ℕ) (d : X)
        → lt (get_or (x ∷ y ∷ ys) (suc k + 1) d) (get_or (x ∷ y ∷ ys) (suc k) d) ≡ false
        → lt (get_or (y ∷ ys) (k + 1) d) (get_or (y ∷ ys) k d) ≡ false
    next x y ys k d e =
        let same : suc k + 1 ≡ suc (k + 1) = omega arith in
        subst (λ n. lt (get_or (x ∷ y ∷ ys) n d) (get_or (y ∷ ys) k d) ≡ false) same e

    -- what a sort ensures
    pub up_from_sorted : (xs : List X) → IsSortedBy lt xs → Up xs
    up_from_sorted [] sorted = tt
    up_from_sorted (x ∷ []) sorted = (tt, tt)
    up_from_sorted (x ∷ y ∷ ys) sorted =
        let first : lt y x ≡ false = sorted 0 x (omega arith) (omega arith) in
        let rest : Up (y ∷ ys) =
        up_from_sorted (y ∷ ys) (λ k d l h. next x y ys k d (sorted (suc k) d (omega arith) (omega arith))) in
        ((first, none_through x y ys first rest.0), rest)

    none_at : (x : X) (xs : List X) (j : ℕ) (d : X) → NoneLess x xs → j < length xs
        → lt (get_or xs j d) x ≡ false
    none_at x [] j d n h = absurd (omega arith)
    none_at x (y ∷ ys) zero d n h = n.0
    none_at x (y ∷ ys) (suc j) d n h = none_at x ys j d n.1 (omega arith)

    -- the same by index
    pub up_at : (xs : List X) → Up xs → (i j : ℕ) (d : X) → i ≤ j → j < length xs
        → lt (get_or xs j d) (get_or xs i d) ≡ false
    up_at [] up i j d l h = absurd (omega arith)
    up_at (x ∷ xs) up zero zero d l h = not_itself x
    up_at (x ∷ xs) up zero (suc j) d l h = none_at x xs j d up.0 (omega arith)
    up_at (x ∷ xs) up (suc i) zero d l h = absurd (omega arith)
    up_at (x ∷ xs) up (suc i) (suc j) d l h = up_at xs up.1 i j d (omega arith) (omega arith)

    -- if some element ties with y, and none is less than x, y is not less than x
    tied_above : (x y : X) (zs : List X) (w : X) (ws : List X) → NoneLess x zs
        → filter (ties lt y) zs ≡ w ∷ ws → lt y x ≡ false
    tied_above x y [] w ws n e = absurd cc
    tied_above x y (z ∷ zs) w ws n e = elim (cases_Bool (ties lt y z)) [
      | inl tie ↦ order.chain y z x (ties_parts y z tie).0 n.0
      | inr miss ↦ tied_above x y zs w ws n.1 (sym (filter_dropped (ties lt y) z zs miss) ∙ e)
    ]

    pub same_from_ties : (ys zs : List X) → Up ys → Up zs
        → ((x : X) → filter (ties lt x) ys ≡ filter (ties lt x) zs) → ys ≡ zs
    same_from_ties [] [] left right same = refl
    same_from_ties [] (z ∷ zs) left right same =
        let clash = same z ∙ filter_kept (ties lt z) z zs (self_tie z) in absurd cc
    same_from_ties (y ∷ ys) [] left right same =
        let clash = sym (same y) ∙ filter_kept (ties lt y) y ys (self_tie y) in absurd cc
    same_from_ties (y ∷ ys) (z ∷ zs) left right same =
        let at_y = filter_kept (ties lt y) y ys (self_tie y) in
        let at_z = filter_kept (ties lt z) z zs (self_tie z) in
        let up : lt y z ≡ false =
        tied_above z y (z ∷ zs) y (filter (ties lt y) ys) (not_itself z, right.0) (sym (same y) ∙ at_y) in
        let down : lt z y ≡ false =
        tied_above y z (y ∷ ys) z (filter (ties lt z) zs) (not_itself y, left.0) (same z ∙ at_z) in
        let heads = sym at_y ∙ same y ∙ filter_kept (ties lt y) z zs (ties_from y z up down) in
        let head : y ≡ z = cc in
        let tails : (x : X) → filter (ties lt x) ys ≡ filter (ties lt x) zs =
        λ x. elim (cases_Bool (ties lt x y)) [
          | inl tie ↦
              let both = sym (filter_kept (ties lt x) y ys tie) ∙ same x
              ∙ filter_kept (ties lt x) z zs (ap (ties lt x) (sym head) ∙ tie) in cc
          | inr miss ↦
              sym (filter_dropped (ties lt x) y ys miss) ∙ same x
              ∙ filter_dropped (ties lt x) z zs (ap (ties lt x) (sym head) ∙ miss)
        ] in
        ap (λ w. w ∷ ys) head ∙ ap (λ l. z ∷ l) (same_from_ties ys zs left.1 right.1 tails)
