-- One byte more: the starts of lines.
use Rattle.std.proofs.Common.{◌≡◌, ◌<◌, ℕ, ◌+◌, ◌==◌, if◌then◌else◌, length, take, get_or, List, [], ◌∷◌, ◌++◌, ap, ◌∙◌, subst, arith}
use Rattle.std.proofs.lemmas.Bool.Decides.{nat_tests}
use Rattle.std.proofs.lemmas.List.{length-take, take_more}
use Rattle.protox_places.specs.Lines.{starts}

pub starts-more : (xs : List ℕ) (b i : ℕ) → starts i (xs ++ b ∷ []) ≡ starts i xs ++ (if b == 10 then (i + length xs + 1) ∷ [] else [])
starts-more [] b i = grind (arith, nat_tests)
starts-more (x ∷ xs) b i = let e = starts-more xs b (i + 1) in grind (arith, nat_tests)

-- The next byte of a list adds a start if it is a newline.
pub starts-next : (xs : List ℕ) (i : ℕ) → i < length xs → starts 0 (take (i + 1) xs) ≡ starts 0 (take i xs) ++ (if get_or xs i 0 == 10 then (i + 1) ∷ [] else [])
starts-next xs i lt =
    let more : starts 0 (take (i + 1) xs) ≡ starts 0 (take i xs) ++ (if get_or xs i 0 == 10 then (0 + length (take i xs) + 1) ∷ [] else []) = ap (starts 0) (take_more xs i 0 lt) ∙ starts-more (take i xs) (get_or xs i 0) 0 in
    let size : 0 + length (take i xs) ≡ i = omega (arith, length-take i xs, lt) in
    subst (λ n. starts 0 (take (i + 1) xs) ≡ starts 0 (take i xs) ++ (if get_or xs i 0 == 10 then (n + 1) ∷ [] else [])) size more
