-- A list that is sorted stably is the one that an insertion sort gives.
use Rattle.std.proofs.Common.{◌≡◌, ℕ, suc, ◌<◌, ◌≤◌, Bool, true, false, not, ◌&&◌, cond, List, [], ◌∷◌, length, get_or, refl, sym, ap, ◌∙◌, arith, inl, inr}
use Rattle.std.specs.Prelude.{⊤, if◌then◌else◌}
use Rattle.std.specs.Cmp.{IsStrictWeakOrder}
use Rattle.std.specs.List.{filter}
use Rattle.std.specs.List.Sorted.{IsSortedBy, IsStableBy, ties}
use Rattle.std.proofs.lemmas.Bool.{and_parts, cases_Bool, false≢true}
use Rattle.std.proofs.lemmas.List.Sorted.{sorted_far}

no_from_not : (b : Bool) → not b ≡ true → b ≡ false
no_from_not true e = absurd (false≢true e)
no_from_not false e = refl

module _ {X : Type 0} (lt : X → X → Bool) where
  -- an element in front of others that are in order
  abbrev pub inserted : X → List X → List X
  inserted x [] = x ∷ []
  inserted x (y ∷ ys) = if lt y x then y ∷ inserted x ys else x ∷ y ∷ ys

  abbrev pub insertion_sorted : List X → List X
  insertion_sorted [] = []
  insertion_sorted (x ∷ xs) = inserted x (insertion_sorted xs)

  -- none of them is less than x
  abbrev Above : X → List X → Type 0
  Above x [] = ⊤
  Above x (y ∷ ys) = (lt y x ≡ false) × Above x ys

  -- none is less than one before it
  abbrev Rising : List X → Type 0
  Rising [] = ⊤
  Rising (x ∷ xs) = Above x xs × Rising xs

  -- those that tie with x
  abbrev tied : X → List X → List X
  tied x = filter (ties lt x)

  tied_in : (x y : X) (ys : List X) → ties lt x y ≡ true → tied x (y ∷ ys) ≡ y ∷ tied x ys
  tied_in x y ys e = ap (λ b. cond b (y ∷ tied x ys) (tied x ys)) e

  tied_out : (x y : X) (ys : List X) → ties lt x y ≡ false → tied x (y ∷ ys) ≡ tied x ys
  tied_out x y ys e = ap (λ b. cond b (y ∷ tied x ys) (tied x ys)) e

  -- of two that tie, neither is less
  neither : (x y : X) → ties lt x y ≡ true → (lt x y ≡ false) × (lt y x ≡ false)
  neither x y e =
      let both = and_parts (not (lt x y)) (not (lt y x)) e in
      (no_from_not (lt x y) both.0, no_from_not (lt y x) both.1)

  tie : (x y : X) → lt x y ≡ false → lt y x ≡ false → ties lt x y ≡ true
  tie x y a b = ap (λ c. not c && not (lt y x)) a ∙ ap (λ c. not c) b

  module _ (order : IsStrictWeakOrder lt) where
    not_itself : (x : X) → lt x x ≡ false
    not_itself x = elim (cases_Bool (lt x x)) [ inl less ↦ order.one_way x x less | inr not ↦ not ]

    itself : (x : X) → ties lt x x ≡ true
    itself x = tie x x (not_itself x) (not_itself x)

    above_through : (x y : X) (ys : List X) → lt y x ≡ false → Above y ys → Above x ys
    above_through x y [] e above = tt
    above_through x y (z ∷ zs) e above = (order.chain z y x above.0 e, above_through x y zs e above.1)

    -- ---- what a sort gives is rising

    above_at : (x : X) (ys : List X) → ((j : ℕ) (d : X) → j < length ys → lt (get_or ys j d) x ≡ false) → Above x ys
    above_at x [] each = tt
    above_at x (y ∷ ys) each = (each 0 x (omega arith), above_at x ys (λ j d below. each (suc j) d (omega arith)))

    rising_at : (xs : List X) → ((i j : ℕ) (d : X) → i ≤ j → j < length xs → lt (get_or xs j d) (get_or xs i d) ≡ false) → Rising xs
    rising_at [] far = tt
    rising_at (x ∷ xs) far = (
      above_at x xs (λ j d below. far 0 (suc j) d (omega arith) (omega arith)),
      rising_at xs (λ i j d up below. far (suc i) (suc j) d (omega arith) (omega arith)),
    )

    rising : (xs : List X) → IsSortedBy lt xs → Rising xs
    rising xs sorted = rising_at xs (sorted_far lt order xs sorted)

    -- ---- so is what an insertion sort gives

    above_inserted : (x y : X) (ys : List X) → lt y x ≡ false → Above x ys → Above x (inserted y ys)
    above_inserted x y [] e above = (e, tt)
    above_inserted x y (z ∷ zs) e above = go (lt z y) (above_inserted x y zs e above.1) where
      go : (b : Bool) → Above x (inserted y zs) → Above x (if b then z ∷ inserted y zs else y ∷ z ∷ zs)
      go true rest = (above.0, rest)
      go false rest = (e, above)

    rising_inserted : (x : X) (ys : List X) → Rising ys → Rising (inserted x ys)
    rising_inserted x [] up = (tt, tt)
    rising_inserted x (y ∷ ys) up = go (lt y x) refl (rising_inserted x ys up.1) where
      go : (b : Bool) → lt y x ≡ b → Rising (inserted x ys) → Rising (if b then y ∷ inserted x ys else x ∷ y ∷ ys)
      go true e rest = (above_inserted y x ys (order.one_way y x e) up.0, rest)
      go false e rest = ((e, above_through x y ys e up.0), up)

    rising_sorted : (xs : List X) → Rising (insertion_sorted xs)
    rising_sorted [] = tt
    rising_sorted (x ∷ xs) = rising_inserted x (insertion_sorted xs) (rising_sorted xs)

    -- ---- and it keeps the order of those that tie

    swapped : (y z : X) (rest : List X) (p q : Bool) → (p ≡ true → q ≡ true → ⊥)
        → cond p (z ∷ cond q (y ∷ rest) rest) (cond q (y ∷ rest) rest)
        ≡ cond q (y ∷ cond p (z ∷ rest) rest) (cond p (z ∷ rest) rest)
    swapped y z rest true true h = absurd (h refl refl)
    swapped y z rest true false h = refl
    swapped y z rest false true h = refl
    swapped y z rest false false h = refl

    tied_inserted : (x y : X) (ys : List X) → tied x (inserted y ys) ≡ tied x (y ∷ ys)
    tied_inserted x y [] = refl
    tied_inserted x y (z ∷ zs) = go (lt z y) refl (tied_inserted x y zs) where
      apart : lt z y ≡ true → ties lt x z ≡ true → ties lt x y ≡ true → ⊥
      apart e a b = false≢true (sym (order.chain z x y (neither x z a).1 (neither x y b).0) ∙ e)

      go : (b : Bool) → lt z y ≡ b → tied x (inserted y zs) ≡ tied x (y ∷ zs)
          → tied x (if b then z ∷ inserted y zs else y ∷ z ∷ zs) ≡ tied x (y ∷ z ∷ zs)
      go true e same =
          ap (λ rest. cond (ties lt x z) (z ∷ rest) rest) same
          ∙ swapped y z (tied x zs) (ties lt x z) (ties lt x y) (apart e)
      go false e same = refl

    tied_sorted : (x : X) (xs : List X) → tied x (insertion_sorted xs) ≡ tied x xs
    tied_sorted x [] = refl
    tied_sorted x (y ∷ ys) =
        tied_inserted x y (insertion_sorted ys)
        ∙ ap (λ rest. cond (ties lt x y) (y ∷ rest) rest) (tied_sorted x ys)

    -- ---- rising lists with the same ties are the same

    -- if some element ties with y, and none is less than x, y is not less than x
    tied_above : (x y : X) (zs : List X) (w : X) (ws : List X) → Above x zs → tied y zs ≡ w ∷ ws → lt y x ≡ false
    tied_above x y [] w ws above e = absurd cc
    tied_above x y (z ∷ zs) w ws above e = elim (cases_Bool (ties lt y z)) [
      | inl hit ↦ order.chain y z x (neither y z hit).0 above.0
      | inr miss ↦ tied_above x y zs w ws above.1 (sym (tied_out y z zs miss) ∙ e)
    ]

    same_by_ties : (ys zs : List X) → Rising ys → Rising zs → ((x : X) → tied x ys ≡ tied x zs) → ys ≡ zs
    same_by_ties [] [] left right same = refl
    same_by_ties [] (z ∷ zs) left right same = let clash = same z ∙ tied_in z z zs (itself z) in absurd cc
    same_by_ties (y ∷ ys) [] left right same = let clash = sym (same y) ∙ tied_in y y ys (itself y) in absurd cc
    same_by_ties (y ∷ ys) (z ∷ zs) left right same =
        let at_y = tied_in y y ys (itself y) in
        let at_z = tied_in z z zs (itself z) in
        let up : lt y z ≡ false = tied_above z y (z ∷ zs) y (tied y ys) (not_itself z, right.0) (sym (same y) ∙ at_y) in
        let down : lt z y ≡ false = tied_above y z (y ∷ ys) z (tied z zs) (not_itself y, left.0) (same z ∙ at_z) in
        let heads = sym at_y ∙ same y ∙ tied_in y z zs (tie y z up down) in
        let head : y ≡ z = cc in
        let tails : (x : X) → tied x ys ≡ tied x zs =
        λ x. elim (cases_Bool (ties lt x y)) [
          | inl hit ↦
              let both = sym (tied_in x y ys hit) ∙ same x ∙ tied_in x z zs (ap (ties lt x) (sym head) ∙ hit) in cc
          | inr miss ↦
              sym (tied_out x y ys miss) ∙ same x ∙ tied_out x z zs (ap (ties lt x) (sym head) ∙ miss)
        ] in
        ap (λ w. w ∷ ys) head ∙ ap (λ l. z ∷ l) (same_by_ties ys zs left.1 right.1 tails)

    pub stably_sorted : (xs ys : List X) → IsSortedBy lt ys → IsStableBy lt xs ys → ys ≡ insertion_sorted xs
    stably_sorted xs ys sorted stable =
        same_by_ties ys (insertion_sorted xs) (rising ys sorted) (rising_sorted xs)
        (λ x. stable x ∙ sym (tied_sorted x xs))
