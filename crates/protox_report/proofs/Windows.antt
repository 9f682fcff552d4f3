-- What a search for a newline in a part of the source says of the lines of the source.
use Rattle.std.proofs.Common.{◌≡◌, ◌≢◌, ℕ, ◌+◌, ◌-◌, ◌<◌, ◌≤◌, false, List, length, drop, slice_index, slice_range, sym, subst, ◌∙◌, arith}
use Rattle.std.proofs.lemmas.Bool.Decides.{nat_tests}
use Rattle.std.proofs.lemmas.List.{get_or-drop, get_or-take, length-drop, length-take}
use Rattle.memchr.specs.Find.{Nowhere, Passes, is_byte}
use Rattle.protox_report.specs.Excerpts.{ends_line}

-- a newline of the source is one of the part
newline-in : (bs : List ℕ) (low high k : ℕ) → low ≤ k → k < high → slice_index bs k ≡ 10 → Passes (is_byte 10) (slice_range bs low high) (k - low)
newline-in bs low high k above below is =
    let byte : slice_index (slice_range bs low high) (k - low) ≡ slice_index bs (low + (k - low)) = get_or-take (high - low) (drop low bs) (k - low) 0 (omega (arith, above, below)) ∙ get_or-drop low bs (k - low) 0 in
    let back : low + (k - low) ≡ k = omega (arith, above) in
    let ten : slice_index (slice_range bs low high) (k - low) ≡ 10 = byte ∙ subst (λ i. slice_index bs i ≡ 10) (sym back) is in
    grind (arith, nat_tests)

-- no newline in what was searched
pub no-newline : (bs : List ℕ) (low high from to : ℕ) → Nowhere (Passes (is_byte 10) (slice_range bs low high)) from to
    → (k : ℕ) → low + from ≤ k → k < low + to → k < high → slice_index bs k ≢ 10
no-newline bs low high from to none k above below inside is = none (k - low) (omega (arith, above)) (omega (arith, above, below)) (newline-in bs low high k (omega (arith, above)) inside is)

-- how long the part is
pub part-length : (bs : List ℕ) (low high : ℕ) → high ≤ length bs → length (slice_range bs low high) ≡ high - low
part-length bs low high le = length-take (high - low) (drop low bs) ∙ (rw (length-drop low bs) (omega (arith, le)))

-- neither a newline, nor a carriage return before one
pub not-ending : (bs : List ℕ) (k : ℕ) → slice_index bs k ≢ 10 → (slice_index bs k ≡ 13 → slice_index bs (k + 1) ≢ 10) → ends_line bs k ≡ false
not-ending bs k line return = grind (arith, nat_tests)
