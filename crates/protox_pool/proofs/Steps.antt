-- The steps of an iterator that counts through a list.
use Rattle.std.proofs.Common.{◌≡◌, ℕ, ◌+◌, ◌<◌, List, [], ◌∷◌, length, drop, slice_get, arith, sym, subst, ◌∙◌, Option}
use Rattle.std.proofs.lemmas.List.{drop_more}
use Rattle.std.proofs.lemmas.Option.{slice_get-get_or}
use Rattle.std.specs.Option.{MatchOption}

pub next_is : {X : Type 0} (xs : List X) (n : ℕ) (r : Option X) → n < length xs → r ≡ slice_get xs n
    → MatchOption r ((drop n xs ≡ []) × (drop (n + 1) xs ≡ [])) (λ x. drop n xs ≡ x ∷ drop (n + 1) xs)
next_is [] n r within is = absurd (omega arith)
next_is (x ∷ xs) n r within is =
    subst (λ o. MatchOption o ((drop n (x ∷ xs) ≡ []) × (drop (n + 1) (x ∷ xs) ≡ [])) (λ y. drop n (x ∷ xs) ≡ y ∷ drop (n + 1) (x ∷ xs)))
    (sym (is ∙ slice_get-get_or (x ∷ xs) n x within)) (drop_more (x ∷ xs) n x within)
