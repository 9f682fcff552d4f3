-- One byte more: the number of newlines, and the start of the line behind the last one.
use Rattle.std.proofs.Common.{◌≡◌, ◌<◌, ℕ, ◌+◌, ◌==◌, if◌then◌else◌, length, take, get_or, List, [], ◌∷◌, ◌++◌, ap, ◌∙◌, subst, arith}
use Rattle.std.proofs.lemmas.Bool.Decides.{nat_tests}
use Rattle.std.proofs.lemmas.List.{length-take, take_more}
use Rattle.protox_places.specs.Lines.{newlines, behind_last}

pub newlines-more : (xs : List ℕ) (b : ℕ) → newlines (xs ++ b ∷ []) ≡ newlines xs + (if b == 10 then 1 else 0)
newlines-more [] b = grind (arith, nat_tests)
newlines-more (x ∷ xs) b = let e = newlines-more xs b in grind (arith, nat_tests)

pub behind-more : (xs : List ℕ) (b start i : ℕ) → behind_last start i (xs ++ b ∷ []) ≡ (if b == 10 then i + length xs + 1 else behind_last start i xs)
behind-more [] b start i = grind (arith, nat_tests)
behind-more (x ∷ xs) b start i = let e = behind-more xs b (i + 1) (i + 1) in let f = behind-more xs b start (i + 1) in grind (arith, nat_tests)

-- How the count of newlines grows with the next byte of a list.
pub newlines-next : (xs : List ℕ) (i : ℕ) → i < length xs → newlines (take (i + 1) xs) ≡ newlines (take i xs) + (if get_or xs i 0 == 10 then 1 else 0)
newlines-next xs i lt = ap newlines (take_more xs i 0 lt) ∙ newlines-more (take i xs) (get_or xs i 0)

pub behind-next : (xs : List ℕ) (i : ℕ) → i < length xs → behind_last 0 0 (take (i + 1) xs) ≡ (if get_or xs i 0 == 10 then i + 1 else behind_last 0 0 (take i xs))
behind-next xs i lt =
    let more : behind_last 0 0 (take (i + 1) xs) ≡ (if get_or xs i 0 == 10 then 0 + length (take i xs) + 1 else behind_last 0 0 (take i xs)) = ap (behind_last 0 0) (take_more xs i 0 lt) ∙ behind-more (take i xs) (get_or xs i 0) 0 0 in
    let size : 0 + length (take i xs) ≡ i = omega (arith, length-take i xs, lt) in
    subst (λ n. behind_last 0 0 (take (i + 1) xs) ≡ (if get_or xs i 0 == 10 then n + 1 else behind_last 0 0 (take i xs))) size more
