-- The answer of a search through all elements of a list.
use Rattle.std.proofs.Common.{◌≡◌, ◌<◌, ℕ, zero, suc, Bool, true, false, ◌&&◌, List, [], ◌∷◌, length, refl, sym, arith}
use Rattle.std.specs.Bool.{MatchBool}
use Rattle.std.specs.List.{list_all, AllWithin, HoldsAt}

both-true : (a b : Bool) → a ≡ true → b ≡ true → a && b ≡ true
both-true true b p q = q
both-true false b p q = absurd cc

one-false : (a b : Bool) → a ≡ false → a && b ≡ false
one-false true b p = absurd cc
one-false false b p = refl

other-false : (a b : Bool) → b ≡ false → a && b ≡ false
other-false true b p = p
other-false false b p = refl

all-true : {X : Type 0} (p : X → Bool) (xs : List X) → AllWithin (λ x. p x ≡ true) xs 0 (length xs) → list_all p xs ≡ true
all-true p [] h = refl
all-true p (x ∷ xs) h = both-true (p x) (list_all p xs) (h 0 x (omega arith) (omega arith)) (all-true p xs (λ k d low high. h (suc k) d (omega arith) (omega arith)))

all-false : {X : Type 0} (p : X → Bool) (xs : List X) (k : ℕ) → k < length xs → HoldsAt (λ x. p x ≡ false) xs k → list_all p xs ≡ false
all-false p [] k l h = absurd (omega arith)
all-false p (x ∷ xs) zero l h = one-false (p x) (list_all p xs) (h x)
all-false p (x ∷ xs) (suc k) l h = other-false (p x) (list_all p xs) (all-false p xs k (omega arith) h)

-- the answer of a search through all elements
pub all-is : {X : Type 0} (p : X → Bool) (xs : List X) (r : Bool) → MatchBool r (AllWithin (λ x. p x ≡ true) xs 0 (length xs)) ((k : ℕ) × (k < length xs) × HoldsAt (λ x. p x ≡ false) xs k) → r ≡ list_all p xs
all-is p xs true h = sym (all-true p xs h)
all-is p xs false h = sym (all-false p xs h.0 h.1 h.2)
