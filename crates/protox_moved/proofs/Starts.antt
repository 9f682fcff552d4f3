-- Paths that begin with others.
use Rattle.std.proofs.Common.{◌≡◌, true, false, List, [], ◌∷◌, length, take, refl, sym, ap, subst, ◌∙◌, Ordering, Less, Equal, Greater}
use Rattle.std.specs.Prelude.{ℤ, ◌&&◌}
use Rattle.std.specs.Cmp.Lexicographic.{pointwise, slice_cmp}
use Rattle.std.specs.Cmp.Rules.{signed_items}
use Rattle.std.specs.Ordering.{int_cmp, int_eq, is_lt, ordering_reverse, ordering_then}
use Rattle.std.proofs.lemmas.Bool.{and_parts, false≢true}
use Rattle.std.proofs.lemmas.Cmp.{int_cmp_total, tied_itself}
use Rattle.std.proofs.lemmas.Map.Lookups.{exact_signed}
use Rattle.protox_moved.specs.Moved.{is_below}
use Rattle.protox_moved.specs.inner.Sorting.{is_before, is_start}

same_number : (m n : ℤ) → int_eq m n ≡ true → m ≡ n
same_number m n e =
    let same : m ∷ [] ≡ n ∷ [] = (signed_items (m ∷ []) (n ∷ [])).0 (ap (λ b. b && true) e) in cc

itself : (m n : ℤ) → m ≡ n → int_eq m n ≡ true
itself m n e =
    (and_parts (int_eq m n) true ((signed_items (m ∷ []) (n ∷ [])).1 (ap (λ z. z ∷ []) e))).0

level : (m n : ℤ) → m ≡ n → int_cmp m n ≡ Equal
level m n e = subst (λ z. int_cmp m z ≡ Equal) e (tied_itself int_cmp_total m)

-- behind equal numbers the rest decides
rest_decides : (m n : ℤ) (a b : List ℤ) → int_cmp m n ≡ Equal → is_before (m ∷ a) (n ∷ b) ≡ is_before a b
rest_decides m n a b e = ap (λ o. is_lt (ordering_then o (slice_cmp int_cmp a b))) e

pub start_taken : (front path : List ℤ) → is_start front path ≡ pointwise int_eq front (take (length front) path)
start_taken [] path = refl
start_taken (m ∷ front) [] = refl
start_taken (m ∷ front) (n ∷ path) = ap (λ b. int_eq m n && b) (start_taken front path)

pub below_starts : (a b : List ℤ) → is_below a b ≡ true → (is_start a b ≡ true) × (is_before a b ≡ true)
below_starts a [] e = absurd (false≢true e)
below_starts [] (n ∷ b) e = (refl, refl)
below_starts (m ∷ a) (n ∷ b) e =
    let parts = and_parts (int_eq m n) (is_below a b) e in
    let rest = below_starts a b parts.1 in (
      ap (λ c. c && is_start a b) parts.0 ∙ rest.0,
      rest_decides m n a b (level m n (same_number m n parts.0)) ∙ rest.1,
    )

pub starts_below : (a b : List ℤ) → is_start a b ≡ true → is_before a b ≡ true → is_below a b ≡ true
starts_below [] [] e h = absurd (false≢true h)
starts_below [] (n ∷ b) e h = refl
starts_below (m ∷ a) [] e h = absurd (false≢true e)
starts_below (m ∷ a) (n ∷ b) e h =
    let parts = and_parts (int_eq m n) (is_start a b) e in
    let less = sym (rest_decides m n a b (level m n (same_number m n parts.0))) ∙ h in
    ap (λ c. c && is_below a b) parts.0 ∙ starts_below a b parts.1 less

-- a path that begins with another and isn't the same is longer
pub start_apart : (a b : List ℤ) → is_start a b ≡ true → pointwise int_eq a b ≡ false → is_below a b ≡ true
start_apart [] [] e h = absurd (false≢true (sym h))
start_apart [] (n ∷ b) e h = refl
start_apart (m ∷ a) [] e h = absurd (false≢true e)
start_apart (m ∷ a) (n ∷ b) e h =
    let parts = and_parts (int_eq m n) (is_start a b) e in
    let other = sym (ap (λ c. c && pointwise int_eq a b) parts.0) ∙ h in
    ap (λ c. c && is_below a b) parts.0 ∙ start_apart a b parts.1 other

both_same : (x y z : ℤ) → int_eq x y ≡ true → int_eq y z ≡ true → int_eq x z ≡ true
both_same x y z e f = itself x z (same_number x y e ∙ same_number y z f)

-- what lies below a path lies below each that it begins with
pub below_through : (a b c : List ℤ) → is_start a b ≡ true → is_below b c ≡ true → is_below a c ≡ true
below_through a b [] e f = absurd (false≢true f)
below_through [] b (z ∷ c) e f = refl
below_through (x ∷ a) [] (z ∷ c) e f = absurd (false≢true e)
below_through (x ∷ a) (y ∷ b) (z ∷ c) e f =
    let first = and_parts (int_eq x y) (is_start a b) e in
    let second = and_parts (int_eq y z) (is_below b c) f in
    ap (λ t. t && is_below a c) (both_same x y z first.0 second.0) ∙ below_through a b c first.1 second.1

-- what lies between a path and one that begins with it begins with it, too
pub between : (a b c : List ℤ) → is_start a c ≡ true → is_before b a ≡ false → is_before c b ≡ false
    → is_start a b ≡ true
between [] b c e f g = refl
between (x ∷ a) b [] e f g = absurd (false≢true e)
between (x ∷ a) [] (z ∷ c) e f g = absurd (false≢true (sym f))
between (x ∷ a) (y ∷ b) (z ∷ c) e f g = go (int_cmp y x) refl (between a b c parts.1) where
  parts : (int_eq x z ≡ true) × (is_start a c ≡ true)
  parts = and_parts (int_eq x z) (is_start a c) e

  back : int_cmp z y ≡ ordering_reverse (int_cmp y x)
  back = int_cmp_total.antisymm z y
      ∙ ap (λ n. ordering_reverse (int_cmp y n)) (sym (same_number x z (and_parts (int_eq x z) (is_start a c) e).0))

  go : (o : Ordering) → int_cmp y x ≡ o
      → (is_before b a ≡ false → is_before c b ≡ false → is_start a b ≡ true)
      → is_start (x ∷ a) (y ∷ b) ≡ true
  go Less k rest =
      absurd (false≢true (sym f ∙ ap (λ o. is_lt (ordering_then o (slice_cmp int_cmp b a))) k))
  go Greater k rest =
      absurd (false≢true (sym g
      ∙ ap (λ o. is_lt (ordering_then o (slice_cmp int_cmp c b))) (back ∙ ap ordering_reverse k)))
  go Equal k rest =
      ap (λ t. t && is_start a b) (itself x y (sym (exact_signed y x k)))
      ∙ rest (sym (rest_decides y x b a k) ∙ f)
      (sym (rest_decides z y c b (back ∙ ap ordering_reverse k)) ∙ g)
