-- Keys that have numbers, and one more.
use Rattle.std.proofs.Common.{◌≡◌, ◌⊎◌, inl, inr, ℕ, zero, suc, Bool, true, false, cond, List, [], ◌∷◌, ◌++◌, length, Option, Some, None, refl, sym, ap, subst, ◌∙◌, arith, length-append}
use Rattle.std.specs.Bool.{Decides}
use Rattle.std.specs.List.{slice_get}
use Rattle.std.proofs.lemmas.List.{get_or_append_left}
use Rattle.std.proofs.lemmas.Option.{none-some, same_Some, slice_get-get_or, slice_get_within}
use Rattle.std.proofs.Math.Seq.{get_or-append_seam}
use Rattle.protox_name_tree.specs.Numbered.{IsIndexed}
use Rattle.protox_name_tree.specs.Slots.{IsInWindow}

-- nothing was found, as nothing can be
pub none_if_never : (found : Option ℕ) → ((n : ℕ) → found ≡ Some n → ⊥) → found ≡ None
none_if_never None never = refl
none_if_never (Some n) never = absurd (never n refl)

-- two searches that find the same
pub same_found : (one other : Option ℕ) → ((n : ℕ) → one ≡ Some n → other ≡ Some n) → ((n : ℕ) → other ≡ Some n → one ≡ Some n) → one ≡ other
same_found None other there back = sym (none_if_never other (λ n h. none-some n (back n h)))
same_found (Some n) other there back = sym (there n refl)

module _ {X : Type 0} where
  pub slice_get-append : (xs ys : List X) (n : ℕ) (x : X) → slice_get xs n ≡ Some x → slice_get (xs ++ ys) n ≡ Some x
  slice_get-append xs ys n x h =
      let below = slice_get_within xs n x h in
      slice_get-get_or (xs ++ ys) n x (omega (arith, length-append xs ys, below))
      ∙ ap (λ y. Some y) (get_or_append_left xs ys x n below)
      ∙ sym (slice_get-get_or xs n x below) ∙ h

  pub slice_get-last : (xs : List X) (x : X) → slice_get (xs ++ x ∷ []) (length xs) ≡ Some x
  slice_get-last xs x =
      slice_get-get_or (xs ++ x ∷ []) (length xs) x (omega (arith, length-append xs (x ∷ [])))
      ∙ ap (λ y. Some y) (get_or-append_seam xs x [] x)

  -- what stands there is the last, or stood there before
  pub slice_get-push : (xs : List X) (last : X) (n : ℕ) (x : X) → slice_get (xs ++ last ∷ []) n ≡ Some x → (slice_get xs n ≡ Some x) ⊎ ((n ≡ length xs) × (last ≡ x))
  slice_get-push [] last zero x h = inr (refl, same_Some last x h)
  slice_get-push [] last (suc n) x h = absurd (none-some x h)
  slice_get-push (y ∷ xs) last zero x h = inl h
  slice_get-push (y ∷ xs) last (suc n) x h =
      elim (slice_get-push xs last n x h) [ inl before ↦ inl before | inr at ↦ inr (omega (arith, at.0), at.1) ]

-- ---- keys in windows

module _ {K : Type 0} (mixed : K → ℕ) (slots : List (Option ℕ)) (elsewhere : K → Option ℕ) (inside keys : List K) (key : K) (index : IsIndexed mixed slots elsewhere inside) (is : inside ≡ keys) where
  -- what one says that found none there
  pub says_elsewhere : (found : Option ℕ) → ((n : ℕ) → IsInWindow slots (mixed key) n → slice_get inside n ≡ Some key → ⊥) → found ≡ elsewhere key → (n : ℕ) → (found ≡ Some n → slice_get keys n ≡ Some key) × (slice_get keys n ≡ Some key → found ≡ Some n)
  says_elsewhere found none by n = (
    λ h. sym (ap (λ l. slice_get l n) is) ∙ index.kept n key (sym by ∙ h),
    λ h. let at = ap (λ l. slice_get l n) is ∙ h in
        elim (index.found n key at) [
          | inl window ↦ absurd (none n window at)
          | inr there ↦ by ∙ there
        ],
  )

-- One more key. Its number is put into its window, or elsewhere.
module _ {K : Type 0} (mixed : K → ℕ) (slots slots' : List (Option ℕ)) (elsewhere elsewhere' : K → Option ℕ) (keys : List K) (key : K) (index : IsIndexed mixed slots elsewhere keys) (fresh : (n : ℕ) → slice_get keys n ≡ Some key → ⊥) (held : (m n : ℕ) → IsInWindow slots m n → IsInWindow slots' m n) where
  abbrev IsNew : K → ℕ → Type 0
  IsNew q n = (n ≡ length keys) × (key ≡ q)

  once_more : (q : K) (m n : ℕ) → (slice_get keys m ≡ Some q) ⊎ IsNew q m → (slice_get keys n ≡ Some q) ⊎ IsNew q n → m ≡ n
  once_more q m n (inl at) (inl at') = index.once m n q at at'
  once_more q m n (inl at) (inr new) = absurd (fresh m (at ∙ ap (λ k. Some k) (sym new.1)))
  once_more q m n (inr new) (inl at) = absurd (fresh n (at ∙ ap (λ k. Some k) (sym new.1)))
  once_more q m n (inr new) (inr new') = new.0 ∙ sym new'.0

  pub indexed_pushed : ((q : K) (n : ℕ) → elsewhere q ≡ Some n → elsewhere' q ≡ Some n) → ((q : K) (n : ℕ) → elsewhere' q ≡ Some n → (elsewhere q ≡ Some n) ⊎ IsNew q n) → IsInWindow slots' (mixed key) (length keys) ⊎ (elsewhere' key ≡ Some (length keys)) → IsIndexed mixed slots' elsewhere' (keys ++ key ∷ [])
  indexed_pushed more back here = record {
    once = λ m n q at at'. once_more q m n (slice_get-push keys key m q at) (slice_get-push keys key n q at');
    found = λ n q at. elim (slice_get-push keys key n q at) [
      | inl before ↦ elim (index.found n q before) [
        | inl window ↦ inl (held (mixed q) n window)
        | inr there ↦ inr (more q n there)
      ]
      | inr new ↦ subst (λ k. IsInWindow slots' (mixed k) n ⊎ (elsewhere' k ≡ Some n)) new.1 (subst (λ m. IsInWindow slots' (mixed key) m ⊎ (elsewhere' key ≡ Some m)) (sym new.0) here)
    ];
    kept = λ n q h. elim (back q n h) [
      | inl before ↦ slice_get-append keys (key ∷ []) n q (index.kept n q before)
      | inr new ↦ ap (slice_get (keys ++ key ∷ [])) new.0 ∙ slice_get-last keys key ∙ ap (λ k. Some k) new.1
    ];
  }

  -- its number is in its window
  pub pushed_in_window : elsewhere' ≡ elsewhere → IsInWindow slots' (mixed key) (length keys) → IsIndexed mixed slots' elsewhere' (keys ++ key ∷ [])
  pushed_in_window same here = indexed_pushed (λ q n h. ap (λ f. f q) same ∙ h) (λ q n h. inl (sym (ap (λ f. f q) same) ∙ h)) (inl here)

  -- its number is elsewhere
  module _ (same : K → Bool) (decides : (q : K) → Decides (same q) (key ≡ q)) (after : (q : K) → elsewhere' q ≡ cond (same q) (Some (length keys)) (elsewhere q)) where
    none_before : (q : K) (n : ℕ) → key ≡ q → elsewhere q ≡ Some n → ⊥
    none_before q n is h = fresh n (index.kept n q h ∙ ap (λ k. Some k) (sym is))

    still : (q : K) (n : ℕ) (test : Bool) → same q ≡ test → elsewhere' q ≡ cond test (Some (length keys)) (elsewhere q) → elsewhere q ≡ Some n → elsewhere' q ≡ Some n
    still q n true is by h = absurd (none_before q n ((decides q).0 is) h)
    still q n false is by h = by ∙ h

    new_or_before : (q : K) (n : ℕ) (test : Bool) → same q ≡ test → elsewhere' q ≡ cond test (Some (length keys)) (elsewhere q) → elsewhere' q ≡ Some n → (elsewhere q ≡ Some n) ⊎ IsNew q n
    new_or_before q n true is by h = inr (sym (same_Some (length keys) n (sym by ∙ h)), (decides q).0 is)
    new_or_before q n false is by h = inl (sym by ∙ h)

    pub pushed_elsewhere : IsIndexed mixed slots' elsewhere' (keys ++ key ∷ [])
    pushed_elsewhere =
        indexed_pushed (λ q n h. still q n (same q) refl (after q) h) (λ q n h. new_or_before q n (same q) refl (after q) h)
        (inr (after key ∙ ap (λ b. cond b (Some (length keys)) (elsewhere key)) ((decides key).1 refl)))
