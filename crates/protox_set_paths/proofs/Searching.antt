-- In paths in order, the first one that is not less than a path tells whether any begins with it.
use Rattle.std.proofs.Common.{◌≡◌, ℕ, Bool, true, false, List, [], ◌∷◌, map, refl, sym, ap, ◌∙◌, inl, inr, Less}
use Rattle.std.specs.Prelude.{◌||◌, ◌&&◌, cond}
use Rattle.std.specs.BTreeMap.Range.{range_contains}
use Rattle.std.specs.Cmp.Lexicographic.{slice_cmp}
use Rattle.std.specs.List.{AllByRecursion, filter}
use Rattle.std.specs.List.Sorted.{IsStrictlySortedBy}
use Rattle.std.specs.Ordering.{is_le, nat_cmp}
use Rattle.std.specs.declared.ops.Bound.TheVariants.{Included, Unbounded}
use Rattle.std.proofs.lemmas.Bool.{cases_Bool, false≢true}
use Rattle.protox_set_paths.specs.Paths.{begins_with, is_set}
use Rattle.protox_set_paths.proofs.Order.{between, compare, not_less}

module _ {K : Type 0} (numbers : K → List ℕ) where
  -- whether the first of these begins with the path
  abbrev pub first_begins : List ℕ → List K → Bool
  first_begins front [] = false
  first_begins front (x ∷ xs) = begins_with front (numbers x)

  -- the first of these, and those behind it
  abbrev pub from : K → List K → List K
  from front xs = filter (range_contains (compare numbers) (Included front) Unbounded) xs

  -- Where one is not less than a path and doesn't begin with it, none behind it does.
  none_behind : (front : List ℕ) (x : K) (xs : List K) → is_le (slice_cmp nat_cmp front (numbers x)) ≡ true
      → begins_with front (numbers x) ≡ false → AllByRecursion (λ y. compare numbers x y ≡ Less) xs
      → is_set (map numbers xs) front ≡ false
  none_behind front x [] le other behind = refl
  none_behind front x (y ∷ ys) le other behind = elim (cases_Bool (begins_with front (numbers y))) [
    | inl begun ↦ absurd (false≢true (sym other ∙ between front (numbers x) (numbers y) le behind.0 begun))
    | inr none ↦ ap (λ b. b || is_set (map numbers ys) front) none ∙ none_behind front x ys le other behind.1
  ]

  decided : (b c : Bool) → (b ≡ false → c ≡ false) → b ≡ (b || c)
  decided true c h = refl
  decided false c h = sym (h refl)

  not_begun : (b c : Bool) → (b ≡ true → c ≡ true) → c ≡ false → b ≡ false
  not_begun true c h e = absurd (false≢true (sym e ∙ h refl))
  not_begun false c h e = refl

  pub first_decides : (front : K) (xs : List K) → IsStrictlySortedBy (compare numbers) xs
      → first_begins (numbers front) (from front xs) ≡ is_set (map numbers xs) (numbers front)
  unfolding IsStrictlySortedBy
  first_decides front [] sorted = refl
  first_decides front (x ∷ xs) sorted = elim (cases_Bool (is_le (compare numbers front x))) [
    | inl le ↦
        ap (λ b. first_begins (numbers front) (cond (b && true) (x ∷ from front xs) (from front xs))) le
        ∙ decided (begins_with (numbers front) (numbers x)) (is_set (map numbers xs) (numbers front))
        (λ other. none_behind (numbers front) x xs le other sorted.0)
    | inr less ↦
        ap (λ b. first_begins (numbers front) (cond (b && true) (x ∷ from front xs) (from front xs))) less
        ∙ first_decides front xs sorted.1
        ∙ sym (ap (λ b. b || is_set (map numbers xs) (numbers front))
        (not_begun (begins_with (numbers front) (numbers x)) (is_le (compare numbers front x)) (not_less (numbers front) (numbers x)) less))
  ]
