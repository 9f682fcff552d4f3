-- Clashes are told one after another.
use Rattle.std.proofs.Common.{◌≡◌, ℕ, zero, suc, ◌<◌, ◌+◌, Bool, true, false, cond, List, [], ◌∷◌, ◌++◌, length, get_or, map, nat_lt, take, ◌≤◌, Option, Some, None, refl, sym, ◌∙◌, ap, arith, add-one, append_assoc}
use Rattle.std.proofs.lemmas.Bool.Decides.{nat_tests}
use Rattle.std.proofs.lemmas.List.{map_more}
use Rattle.protox_numbers.specs.declared.clash.Clash.{Clash}
use Rattle.protox_numbers.specs.Clashes.{clash_of, clashes_from, with_earlier}

module _ (counts : ℕ → ℕ → Bool) where
  pub append_none : {X : Type 0} (xs : List X) → xs ++ [] ≡ xs
  append_none [] = refl
  append_none (x ∷ xs) = ap (λ l. x ∷ l) (append_none xs)

  one_more : (start : ℕ) (met : List (Option ℕ)) (i : ℕ) (d : Option ℕ) → i < length met
      → clashes_from counts start (take (suc i) met) ≡ clashes_from counts start (take i met) ++ clash_of counts (start + i) (get_or met i d)
  one_more start [] i d h = absurd (omega arith)
  one_more start (m ∷ met) zero d h =
      let here : start ≡ start + 0 = omega arith in
      append_none (clash_of counts start m) ∙ ap (λ n. clash_of counts n m) here
  one_more start (m ∷ met) (suc i) d h =
      let rest = one_more (start + 1) met i d (omega arith) in
      let place : start + 1 + i ≡ start + suc i = omega arith in
      ap (λ l. clash_of counts start m ++ l) (rest ∙ ap (λ n. clashes_from counts (start + 1) (take i met) ++ clash_of counts n (get_or met i d)) place)
      ∙ sym (append_assoc (clash_of counts start m) (clashes_from counts (start + 1) (take i met)) (clash_of counts (start + suc i) (get_or met i d)))

  -- the clashes of one more part
  pub clashes_more : (met : List (Option ℕ)) (i : ℕ) (d : Option ℕ) → i < length met
      → clashes_from counts 0 (take (i + 1) met) ≡ clashes_from counts 0 (take i met) ++ clash_of counts i (get_or met i d)
  clashes_more met i d h =
      let place : 0 + i ≡ i = omega arith in
      ap (λ k. clashes_from counts 0 (take k met)) (add-one i)
      ∙ (one_more 0 met i d h ∙ ap (λ n. clashes_from counts 0 (take i met) ++ clash_of counts n (get_or met i d)) place)

  -- One more part, and its clash, if it has one.
  pub told : (made new : List Clash) (met : List (Option ℕ)) (i : ℕ) (o : Option ℕ) → i < length met
      → get_or met i None ≡ o → made ≡ clashes_from counts 0 (take i met) → new ≡ made ++ clash_of counts i o
      → new ≡ clashes_from counts 0 (take (i + 1) met)
  told made new met i o h is before grown =
      grown ∙ (ap (λ l. l ++ clash_of counts i o) before
      ∙ (ap (λ x. clashes_from counts 0 (take i met) ++ clash_of counts i x) (sym is) ∙ sym (clashes_more met i None h)))

below : (a b : ℕ) → a < b → nat_lt a b ≡ true
below a b h = grind (arith, nat_tests)

not_below : (a b : ℕ) → b ≤ a → nat_lt a b ≡ false
not_below a b h = grind (arith, nat_tests)

module _ (made new : List Clash) (met : List (Option ℕ)) (i x : ℕ) (h : i < length met) (is : get_or met i None ≡ Some x) (before : made ≡ with_earlier (take i met)) where
  -- What the part meets stands before it.
  pub told_earlier : x < i → new ≡ made ++ record { part = i; «with» = x } ∷ [] → new ≡ with_earlier (take (i + 1) met)
  told_earlier lt grown =
      let test = below x i lt in
      let clash : Clash = record { part = i; «with» = x } in
      told (λ part other. nat_lt other part) made new met i (Some x) h is before
      (grown ∙ ap (λ (b : Bool). made ++ cond b (clash ∷ []) []) (sym test))

  -- It doesn't.
  pub told_later : i ≤ x → new ≡ made → new ≡ with_earlier (take (i + 1) met)
  told_later le same =
      let test = not_below x i le in
      let clash : Clash = record { part = i; «with» = x } in
      told (λ part other. nat_lt other part) made new met i (Some x) h is before
      (same ∙ (sym (append_none (λ part other. nat_lt other part) made) ∙ ap (λ (b : Bool). made ++ cond b (clash ∷ []) []) (sym test)))

-- One more element is turned into what it gives.
pub turned : {X Y : Type 0} (f : X → Y) (made new : List Y) (xs : List X) (i : ℕ) (x : X) (r : Y)
    → new ≡ made ++ r ∷ [] → made ≡ map f (take i xs) → r ≡ f x → x ≡ get_or xs i x → i < length xs
    → new ≡ map f (take (i + 1) xs)
turned f made new xs i x r grown before here is h = let more = map_more f xs i x h in cc
