-- What is set once a path is added.
use Rattle.std.proofs.Common.{◌≡◌, ℕ, Bool, true, false, List, [], ◌∷◌, map, refl, sym, ap, ◌∙◌, Ordering, Less, Equal, Greater}
use Rattle.std.specs.Prelude.{◌||◌}
use Rattle.std.specs.BTreeSet.{insert_key}
use Rattle.std.specs.Ordering.{match_ordering}
use Rattle.std.proofs.lemmas.Map.Lookups.{exact_bytes}
use Rattle.protox_set_paths.specs.Paths.{begins_with, is_set}
use Rattle.protox_set_paths.proofs.Order.{compare}

twice : (b c : Bool) → (b || c) ≡ (b || (b || c))
twice true c = refl
twice false c = refl

swapped : (b c d : Bool) → (b || (c || d)) ≡ (c || (b || d))
swapped true true d = refl
swapped true false d = refl
swapped false c d = refl

module _ {K : Type 0} (numbers : K → List ℕ) where
  pub is_set_added : (path : K) (xs : List K) (q : List ℕ)
      → is_set (map numbers (insert_key (compare numbers) xs path)) q ≡ (begins_with q (numbers path) || is_set (map numbers xs) q)
  is_set_added path [] q = refl
  is_set_added path (x ∷ xs) q = go (compare numbers path x) refl (is_set_added path xs q) where
    rest : Bool
    rest = is_set (map numbers xs) q

    go : (o : Ordering) → compare numbers path x ≡ o
        → is_set (map numbers (insert_key (compare numbers) xs path)) q ≡ (begins_with q (numbers path) || rest)
        → is_set (map numbers (match_ordering o (path ∷ x ∷ xs) (x ∷ xs) (x ∷ insert_key (compare numbers) xs path))) q
        ≡ (begins_with q (numbers path) || (begins_with q (numbers x) || rest))
    go Less e more = refl
    go Equal e more =
        let is : numbers path ≡ numbers x = exact_bytes (numbers path) (numbers x) e in
        twice (begins_with q (numbers x)) rest
        ∙ ap (λ p. begins_with q p || (begins_with q (numbers x) || rest)) (sym is)
    go Greater e more =
        ap (λ b. begins_with q (numbers x) || b) more
        ∙ swapped (begins_with q (numbers x)) (begins_with q (numbers path)) rest
