-- The indices of the elements that pass a test, one element at a time.
use Rattle.std.proofs.Common.{◌≡◌, ℕ, ◌+◌, ◌<◌, ◌≤◌, List, [], ◌∷◌, ◌++◌, length, take, get_or, ap, ◌∙◌, arith, Bool, true, false}
use Rattle.std.specs.Prelude.{pos, if◌then◌else◌}
use Rattle.protox_describe.specs.Siblings.{places}
use Rattle.protox_describe.proofs.Lists.{take_one_more}
use Rattle.std.proofs.lemmas.List.{length-take-le}

places-snoc : {A : Type 0} (test : A → Bool) (i : ℕ) (xs : List A) (y : A) → places test i (xs ++ y ∷ []) ≡ places test i xs ++ (if test y then pos (i + length xs) ∷ [] else [])
places-snoc test i [] y = ap (λ n. if test y then pos n ∷ [] else []) (let e : i ≡ i + 0 = omega arith in e)
places-snoc test i (x ∷ xs) y =
    let e : i + 1 + length xs ≡ i + length (x ∷ xs) = omega arith in
    let others : places test (i + 1) (xs ++ y ∷ []) ≡ places test (i + 1) xs ++ (if test y then pos (i + length (x ∷ xs)) ∷ [] else []) =
    places-snoc test (i + 1) xs y ∙ ap (λ n. places test (i + 1) xs ++ (if test y then pos n ∷ [] else [])) e in
    elim (test x) as (λ b. (if b then pos i ∷ places test (i + 1) (xs ++ y ∷ []) else places test (i + 1) (xs ++ y ∷ [])) ≡ (if b then pos i ∷ places test (i + 1) xs else places test (i + 1) xs) ++ (if test y then pos (i + length (x ∷ xs)) ∷ [] else [])) [
      | true ↦ ap (λ l. pos i ∷ l) others
      | false ↦ others
    ]

pub places-take_more : {A : Type 0} (test : A → Bool) (xs : List A) (i : ℕ) (x : A) → i < length xs → x ≡ get_or xs i x
    → places test 0 (take (i + 1) xs) ≡ places test 0 (take i xs) ++ (if test x then pos i ∷ [] else [])
places-take_more test xs i x h e = ap (places test 0) (take_one_more xs i x h e) ∙ places-snoc test 0 (take i xs) x ∙ ap (λ n. places test 0 (take i xs) ++ (if test x then pos n ∷ [] else [])) (let z : 0 + length (take i xs) ≡ i = let l : i ≤ length xs = omega arith in omega (arith, length-take-le i xs l) in z)
