-- How texts are mixed to numbers, four bytes at a time.
use Rattle.std.proofs.Common.{◌≡◌, ℕ, ◌+◌, ◌*◌, ◌^◌, ◌<◌, ◌≤◌, List, [], ◌∷◌, length, drop, ap, ◌∙◌, sym, arith}
use Rattle.std.proofs.lemmas.List.{drop_more}
use Rattle.std.proofs.lemmas.Nat.{mul-le}
use Rattle.std.specs.Prelude.{slice_index}
use Rattle.protox_name_tree.specs.Slots.{mixed, mixed_on, word}

-- A byte stands at the front of what is left.
one_left : (bytes : List ℕ) (at next : ℕ) → next ≡ at + 1 → at < length bytes → drop at bytes ≡ slice_index bytes at ∷ drop next bytes
one_left bytes at next e within = drop_more bytes at 0 within ∙ ap (λ k. slice_index bytes at ∷ drop k bytes) (sym e)

-- So do four.
four_left : (bytes : List ℕ) (at : ℕ) → at + 4 ≤ length bytes
    → drop at bytes ≡ slice_index bytes at ∷ slice_index bytes (at + 1) ∷ slice_index bytes (at + 2) ∷ slice_index bytes (at + 3) ∷ drop (at + 4) bytes
four_left bytes at fits =
    one_left bytes at (at + 1) (omega arith) (omega arith)
    ∙ ap (λ more. slice_index bytes at ∷ more) (one_left bytes (at + 1) (at + 2) (omega arith) (omega arith)
    ∙ ap (λ more. slice_index bytes (at + 1) ∷ more) (one_left bytes (at + 2) (at + 3) (omega arith) (omega arith)
    ∙ ap (λ more. slice_index bytes (at + 2) ∷ more) (one_left bytes (at + 3) (at + 4) (omega arith) (omega arith))))

-- Mixing them in leads on.
pub words_mixed : (bytes : List ℕ) (at so_far : ℕ) → at + 4 ≤ length bytes
    → mixed_on (mixed so_far (word (slice_index bytes at) (slice_index bytes (at + 1)) (slice_index bytes (at + 2)) (slice_index bytes (at + 3)))) (drop (at + 4) bytes)
    ≡ mixed_on so_far (drop at bytes)
words_mixed bytes at so_far fits = sym (ap (mixed_on so_far) (four_left bytes at fits))

-- The product of two numbers of 32 bits has 64 bits.
pub product_fits : (x count : ℕ) → x < 4294967296 → count ≤ 4294967295 → x * count < 2 ^ 64
product_fits x count below near = omega (arith, mul-le x count 4294967295 4294967295 (omega (arith, below)) near)
