-- Digits without the zeros at their end, as a loop from the end finds them.
use Rattle.std.proofs.Common.{◌≡◌, ◌≢◌, ℕ, ◌-◌, ◌<◌, ◌≤◌, List, length, take, get_or, eqb, sym, ap, arith, eq-eqb, ne_eqb}
use Rattle.std.proofs.lemmas.List.Sums.{suffix_len_is}
use Rattle.std.specs.List.{slice_range, suffix_len}
use Rattle.protox_decimal.specs.Texts.{stripped}

pub trimmed_is : (xs : List ℕ) (n : ℕ) → n ≤ length xs → ((k : ℕ) → n ≤ k → k < length xs → get_or xs k 0 ≡ 48) → (0 < n → get_or xs (n - 1) 0 ≢ 48) → take n xs ≡ stripped xs
trimmed_is xs n within zeros last =
    let s : suffix_len (λ c. eqb c 48) xs ≡ length xs - n = suffix_len_is (λ c. eqb c 48) xs n 0 within (λ k h l. eq-eqb _ _ (zeros k h l)) (λ p. ne_eqb _ _ (last p)) in
    let e : length xs - suffix_len (λ c. eqb c 48) xs ≡ n = omega arith in
    ap (λ k. take k xs) (sym e)

pub front : (xs : List ℕ) (n : ℕ) → slice_range xs 0 n ≡ take n xs
front xs n = let e : n - 0 ≡ n = omega arith in ap (λ k. take k xs) e
