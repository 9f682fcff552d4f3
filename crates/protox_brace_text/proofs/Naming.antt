-- Full names behind a dot, and steps that are seen.
use Rattle.std.proofs.Common.{◌≡◌, ◌≢◌, ℕ, suc, zero, List, [], ◌∷◌, ap, map, refl, take}
use Rattle.protox_name_tree.specs.Tree.{dotted}

-- what isn't behind a dot is the empty name
pub no_name : (name : List ℕ) → ((rest : List ℕ) → dotted name ≢ 46 ∷ rest) → [] ≡ name
no_name [] h = refl
no_name (byte ∷ more) h = absurd (h (byte ∷ more) refl)

pub map_take : {A B : Type 0} (f : A → B) (n : ℕ) (xs : List A) → map f (take n xs) ≡ take n (map f xs)
map_take f zero xs = refl
map_take f (suc n) [] = refl
map_take f (suc n) (x ∷ xs) = ap (λ more. f x ∷ more) (map_take f n xs)
