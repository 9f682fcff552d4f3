-- Two lists of the same paths.
use Rattle.std.proofs.Common.{◌≡◌, ℕ, ◌+◌, ◌<◌, List, [], ◌∷◌, ◌++◌, length, map, take, get_or, sym, ap, ◌∙◌}
use Rattle.std.proofs.lemmas.List.{map-append, take_more}

-- one more on either side
pub one_more : {X Y : Type 0} (f : X → List ℕ) (g : Y → List ℕ) (xs : List X) (x : X) (ys : List Y) (i : ℕ) (d : Y) → i < length ys → f x ≡ g (get_or ys i d) → map f xs ≡ map g (take i ys) → map f (xs ++ x ∷ []) ≡ map g (take (i + 1) ys)
one_more f g xs x ys i d below same before =
    map-append f xs (x ∷ [])
    ∙ ap (λ l. l ++ f x ∷ []) before
    ∙ ap (λ z. map g (take i ys) ++ z ∷ []) same
    ∙ sym (map-append g (take i ys) (get_or ys i d ∷ []))
    ∙ ap (map g) (sym (take_more ys i d below))
