-- One more byte: the newlines, and what stands after the last of them.
use Rattle.std.proofs.Common.{◌≡◌, ◌<◌, ℕ, ◌+◌, ◌==◌, if◌then◌else◌, length, take, get_or, List, [], ◌∷◌, ◌++◌, ap, ◌∙◌, arith}
use Rattle.std.proofs.lemmas.Bool.Decides.{nat_tests}
use Rattle.std.proofs.lemmas.List.{length_push, take_more}
use Rattle.protox_shown.specs.Line.{newlines, last_line}

pub newlines_more : (xs : List ℕ) (b : ℕ) → newlines (xs ++ b ∷ []) ≡ newlines xs + (if b == 10 then 1 else 0)
newlines_more [] b = grind (arith, nat_tests)
newlines_more (x ∷ xs) b = let e = newlines_more xs b in grind (arith, nat_tests)

pub last_line_more : (xs : List ℕ) (b : ℕ) → length (last_line (xs ++ b ∷ [])) ≡ (if b == 10 then 0 else length (last_line xs) + 1)
last_line_more [] b = grind (arith, nat_tests)
last_line_more (x ∷ xs) b = let e = last_line_more xs b in let n = newlines_more xs b in let l = length_push xs b in grind (arith, nat_tests)

-- How the count of newlines grows with the next byte of a list.
pub newlines_next : (xs : List ℕ) (i : ℕ) → i < length xs → newlines (take (i + 1) xs) ≡ newlines (take i xs) + (if get_or xs i 0 == 10 then 1 else 0)
newlines_next xs i lt = ap newlines (take_more xs i 0 lt) ∙ newlines_more (take i xs) (get_or xs i 0)

pub last_line_next : (xs : List ℕ) (i : ℕ) → i < length xs → length (last_line (take (i + 1) xs)) ≡ (if get_or xs i 0 == 10 then 0 else length (last_line (take i xs)) + 1)
last_line_next xs i lt = ap (λ l. length (last_line l)) (take_more xs i 0 lt) ∙ last_line_more (take i xs) (get_or xs i 0)
