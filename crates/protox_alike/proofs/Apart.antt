-- Keys whose numbers differ are no clash.
use Rattle.std.proofs.Common.{◌≡◌, ◌<◌, ◌≤◌, ◌+◌, ◌⊎◌, inl, inr, ℕ, nat_lt, List, [], ◌∷◌, get_or, length, map, Some, None, bytes_eq, refl, sym, ap, ◌∙◌, arith}
use Rattle.std.proofs.lemmas.List.{get_or-map, length-map}
use Rattle.std.proofs.lemmas.List.Quantifiers.{position-Some}
use Rattle.std.proofs.lemmas.Slice.Eq.{bytes_eq-Decides}
use Rattle.protox_alike.specs.Alike.{first_same, same_names}
use Rattle.protox_alike.specs.inner.Prints.{Differ, print_of}
use Rattle.protox_numbers.proofs.Lemmas.{none_earlier, none_from}

is_below : (q n : ℕ) → (q < n) ⊎ (n ≤ q)
is_below q n = grind arith

pub map_twice : {X Y Z : Type 0} (f : Y → Z) (g : X → Y) (xs : List X) → map (λ x. f (g x)) xs ≡ map f (map g xs)
map_twice f g [] = refl
map_twice f g (x ∷ xs) = ap (λ (rest : List _). f (g x) ∷ rest) (map_twice f g xs)

pub map_same : {X Y : Type 0} (f g : X → Y) (xs : List X) → ((x : X) → f x ≡ g x) → map f xs ≡ map g xs
map_same f g [] same = refl
map_same f g (x ∷ xs) same = ap (λ y. y ∷ map f xs) (same x) ∙ ap (λ ys. g x ∷ ys) (map_same f g xs same)

module _ (keys : List (List ℕ)) (differ : Differ (map print_of keys)) where
  -- the first key that is this one isn't before it
  behind : (part n : ℕ) → part < length keys → first_same keys (get_or keys part []) ≡ Some n → part ≤ n
  behind part n below found =
      let at = position-Some (bytes_eq (get_or keys part [])) keys n [] found in
      let same : get_or keys part [] ≡ get_or keys n [] = (bytes_eq-Decides (get_or keys part []) (get_or keys n [])).0 at.1 in
      elim (is_below n part) [
        | inl earlier ↦
            absurd (differ n part earlier (omega (arith, below, length-map keys print_of))
            (get_or-map print_of keys n [] 0 at.0 ∙ ap print_of (sym same) ∙ sym (get_or-map print_of keys part [] 0 below)))
        | inr later ↦ later
      ]

  pub none_if_differ : same_names keys ≡ []
  none_if_differ =
      none_from (λ p w. nat_lt w p) 0 (map (first_same keys) keys)
      (λ i below. none_earlier (0 + i) (get_or (map (first_same keys) keys) i None)
      (λ n found.
      let within : i < length keys = omega (arith, below, length-map keys (first_same keys)) in
      omega (arith, behind i n within (sym (get_or-map (first_same keys) keys i [] None within) ∙ found))))
