-- The rest of the characters after a cut.
use Rattle.std.proofs.Common.{◌≡◌, ℕ, ◌<◌, ◌≤◌, length, take, List, [], ◌∷◌, ◌++◌, flat_map, arith, ap, sym, ◌∙◌}
use Rattle.std.proofs.lemmas.Bool.Decides.{nat_tests}
use Rattle.std.proofs.lemmas.List.{flat_map_more}
use Rattle.protox_shown.specs.Shown.{cut, shown_char}

pub cut_short : (cs : List ℕ) → length cs ≤ 200 → cut cs ≡ cs
cut_short cs few = grind (arith, nat_tests)

cut_long : (cs : List ℕ) → 200 < length cs → cut cs ≡ take 200 cs ++ (0x2026 ∷ [])
cut_long cs many = grind (arith, nat_tests)

-- The first 200 characters are written, and then `…`.
pub cut_written : (cs xs : List ℕ) → xs ≡ take 200 cs → 200 < length cs → flat_map shown_char xs ++ shown_char 0x2026 ≡ flat_map shown_char (cut cs)
cut_written cs xs first many = flat_map_more shown_char [] xs 0x2026 ∙ ap (flat_map shown_char) (ap (λ l. l ++ (0x2026 ∷ [])) first ∙ sym (cut_long cs many))
