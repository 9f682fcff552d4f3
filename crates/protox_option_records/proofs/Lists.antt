-- An element of a list, and what is left behind it.
use Rattle.std.proofs.Common.{◌≡◌, ◌≢◌, ◌+◌, ◌==◌, ℕ, Bool, true, false, not, if◌then◌else◌, Result, Ok, Err, OnOk, List, [], ◌∷◌, ◌++◌, ap, drop, inl, inr, length, refl, sym, ◌∙◌}
use Rattle.std.proofs.lemmas.Bool.{true≢false}
use Rattle.std.proofs.lemmas.Bool.Decides.{Decides-eqb, Decides-int_eq}
use Rattle.std.proofs.lemmas.Slice.Eq.{slice_eq-Decides}
use Rattle.std.specs.Cmp.Lexicographic.{pointwise}
use Rattle.std.specs.Ordering.{int_eq}
use Rattle.std.specs.Result.{is_ok}
use Rattle.std.specs.Prelude.{ℤ, Some, None, slice_get}
use Rattle.std.proofs.lemmas.List.{drop_all, drop_more, nil_from_length}
use Rattle.std.proofs.lemmas.Option.{get_or_from_slice_get, none-some, slice_get_cases, slice_get_within}

-- What is left begins with the element.
pub left_from : {X : Type 0} (xs : List X) (n : ℕ) (x : X) → slice_get xs n ≡ Some x → drop n xs ≡ x ∷ drop (n + 1) xs
left_from xs n x is =
    drop_more xs n x (slice_get_within xs n x is) ∙ ap (λ y. y ∷ drop (n + 1) xs) (get_or_from_slice_get xs n x x is)

same_first : {X : Type 0} (x y : X) (xs ys : List X) → x ∷ xs ≡ y ∷ ys → x ≡ y
same_first x y xs ys e = cc

same_rest : {X : Type 0} (x y : X) (xs ys : List X) → x ∷ xs ≡ y ∷ ys → xs ≡ ys
same_rest x y xs ys e = cc

-- The element with which what is left begins.
pub first_left : {X : Type 0} (xs : List X) (n : ℕ) (x y : X) (more : List X) → drop n xs ≡ y ∷ more → slice_get xs n ≡ Some x → x ≡ y
first_left xs n x y more left is = same_first x y (drop (n + 1) xs) more (sym (left_from xs n x is) ∙ left)

pub rest_left : {X : Type 0} (xs : List X) (n : ℕ) (x y : X) (more : List X) → drop n xs ≡ y ∷ more → slice_get xs n ≡ Some x → drop (n + 1) xs ≡ more
rest_left xs n x y more left is = same_rest x y (drop (n + 1) xs) more (sym (left_from xs n x is) ∙ left)

no_element : {X : Type 0} (y : X) (more : List X) → [] ≡ y ∷ more → ⊥
no_element y more e = absurd cc

-- Where something is left there is an element.
pub some_left : {X : Type 0} (xs : List X) (n : ℕ) (y : X) (more : List X) → drop n xs ≡ y ∷ more → slice_get xs n ≡ None → ⊥
some_left xs n y more left none = elim (slice_get_cases xs n).1 [
  | inl there ↦ none-some there.0 (sym none ∙ there.2)
  | inr behind ↦ no_element y more (sym (drop_all n xs behind.0) ∙ left)
]

-- ---- results

-- What is put behind others only if that succeeds.
pub put_if_ok : {T E : Type 0} (r : Result T E) (new old more : List ℕ) → new ≡ (if is_ok r then old ++ more else old) → OnOk r (new ≡ old ++ more)
put_if_ok (Ok value) new old more e = e
put_if_ok (Err error) new old more e = tt

pub none_in : {X : Type 0} (xs : List X) → true ≡ (length xs == 0) → xs ≡ []
none_in xs e = nil_from_length xs ((Decides-eqb (length xs) 0).0 (sym e))

-- ---- paths

not_false : (b : Bool) → false ≡ not b → b ≡ true
not_false true e = refl
not_false false e = absurd (true≢false (sym e))

pub other_path : (xs ys : List ℤ) → true ≡ not (pointwise int_eq xs ys) → xs ≢ ys
other_path xs ys test same = true≢false (test ∙ ap not ((slice_eq-Decides Decides-int_eq xs ys (pointwise int_eq xs ys) refl).1 same))

pub this_path : (xs ys : List ℤ) → false ≡ not (pointwise int_eq xs ys) → xs ≡ ys
this_path xs ys test = (slice_eq-Decides Decides-int_eq xs ys (pointwise int_eq xs ys) refl).0 (not_false (pointwise int_eq xs ys) test)
