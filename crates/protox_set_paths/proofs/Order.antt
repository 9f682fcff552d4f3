-- Paths in order, and those that begin with others.
use Rattle.std.proofs.Common.{◌≡◌, ℕ, true, List, [], ◌∷◌, length, take, refl, sym, ap, subst, ◌∙◌, arith, Ordering, Less, Equal, Greater}
use Rattle.std.specs.Prelude.{◌&&◌, ◌==◌, nat_eq}
use Rattle.std.specs.Cmp.Lexicographic.{pointwise, slice_cmp}
use Rattle.std.specs.Ordering.{is_le, nat_cmp, ordering_reverse, ordering_then}
use Rattle.std.proofs.lemmas.Bool.{and_parts, false≢true}
use Rattle.std.proofs.lemmas.Bool.Decides.{nat_tests}
use Rattle.std.proofs.lemmas.Cmp.{nat_cmp_total, tied_itself}
use Rattle.std.proofs.lemmas.Map.Lookups.{exact_unsigned}
use Rattle.std.proofs.lemmas.Map.Views.{exact_unsigned_eq}
use Rattle.protox_set_paths.specs.Paths.{begins_with}

-- the order of values that have paths
abbrev pub compare : {K : Type 0} → (K → List ℕ) → K → K → Ordering
compare numbers x y = slice_cmp nat_cmp (numbers x) (numbers y)

pub begins_taken : (front path : List ℕ) → pointwise nat_eq front (take (length front) path) ≡ begins_with front path
begins_taken [] path = refl
begins_taken (m ∷ front) [] = refl
begins_taken (m ∷ front) (n ∷ path) = ap (λ b. nat_eq m n && b) (begins_taken front path)

tied : (m n : ℕ) → (m == n) ≡ true → nat_cmp m n ≡ Equal
tied m n e = subst (λ z. nat_cmp m z ≡ Equal) (exact_unsigned_eq m n e) (tied_itself nat_cmp_total m)

same : (m n : ℕ) → nat_cmp m n ≡ Equal → (m == n) ≡ true
same m n e = let is : m ≡ n = exact_unsigned m n e in grind (arith, nat_tests)

-- what begins with a path is not less
pub not_less : (front path : List ℕ) → begins_with front path ≡ true → is_le (slice_cmp nat_cmp front path) ≡ true
not_less [] [] h = refl
not_less [] (n ∷ path) h = refl
not_less (m ∷ front) [] h = absurd (false≢true h)
not_less (m ∷ front) (n ∷ path) h =
    let parts = and_parts (m == n) (begins_with front path) h in
    ap (λ o. is_le (ordering_then o (slice_cmp nat_cmp front path))) (tied m n parts.0) ∙ not_less front path parts.1

-- behind equal numbers the rest decides
rest_decides : (o p : Ordering) → o ≡ Equal → ordering_then o p ≡ p
rest_decides o p e = ap (λ first. ordering_then first p) e

-- what lies between a path and one that begins with it begins with it, too
pub between : (front p q : List ℕ) → is_le (slice_cmp nat_cmp front p) ≡ true → slice_cmp nat_cmp p q ≡ Less
    → begins_with front q ≡ true → begins_with front p ≡ true
between [] p q f g h = refl
between (m ∷ front) p [] f g h = absurd (false≢true h)
between (m ∷ front) [] (n ∷ q) f g h = absurd (false≢true f)
between (m ∷ front) (k ∷ p) (n ∷ q) f g h = go (nat_cmp m k) refl (between front p q) where
  parts : ((m == n) ≡ true) × (begins_with front q ≡ true)
  parts = and_parts (m == n) (begins_with front q) h

  back : nat_cmp k n ≡ ordering_reverse (nat_cmp m k)
  back = nat_cmp_total.antisymm k n
      ∙ ap (λ z. ordering_reverse (nat_cmp z k)) (sym (exact_unsigned_eq m n parts.0))

  go : (o : Ordering) → nat_cmp m k ≡ o
      → (is_le (slice_cmp nat_cmp front p) ≡ true → slice_cmp nat_cmp p q ≡ Less → begins_with front q ≡ true → begins_with front p ≡ true)
      → begins_with (m ∷ front) (k ∷ p) ≡ true
  go Less e rest =
      let greater : nat_cmp k n ≡ Greater = back ∙ ap ordering_reverse e in
      let no : Greater ≡ Less = sym (ap (λ o. ordering_then o (slice_cmp nat_cmp p q)) greater) ∙ g in cc
  go Greater e rest =
      absurd (false≢true (sym (ap (λ o. is_le (ordering_then o (slice_cmp nat_cmp front p))) e) ∙ f))
  go Equal e rest =
      let level : nat_cmp k n ≡ Equal = back ∙ ap ordering_reverse e in
      ap (λ b. b && begins_with front p) (same m k e)
      ∙ rest (sym (ap is_le (rest_decides (nat_cmp m k) (slice_cmp nat_cmp front p) e)) ∙ f)
      (sym (rest_decides (nat_cmp k n) (slice_cmp nat_cmp p q) level) ∙ g) parts.1
