-- The lines of a source start right behind its newlines.
use Rattle.std.proofs.Common.{◌≡◌, ℕ, ◌+◌, ◌-◌, ◌<◌, ◌≤◌, ◌==◌, true, false, List, [], ◌∷◌, map, length, drop, suc, zero, refl, ap, sym, ◌∙◌, arith}
use Rattle.std.specs.Prelude.{if◌then◌else◌, slice_index, ⊤}
use Rattle.std.proofs.lemmas.List.{drop_more}
use Rattle.memchr.specs.Find.{is_byte, places, places_from}
use Rattle.protox_places.specs.Lines.{starts}

nothing_left : (hay : List ℕ) (i : ℕ) → length hay ≤ i → drop i hay ≡ []
nothing_left [] zero h = refl
nothing_left [] (suc i) h = refl
nothing_left (x ∷ hay) zero h = absurd (omega (arith, h))
nothing_left (x ∷ hay) (suc i) h = nothing_left hay i (omega (arith, h))

starts-behind : (hay : List ℕ) (n i : ℕ) → i + n ≡ length hay → starts i (drop i hay) ≡ map (λ at. at + 1) (places_from (is_byte 10) hay i n)
unfolding places_from
starts-behind hay zero i h = ap (starts i) (nothing_left hay i (omega (arith, h)))
starts-behind hay (suc n) i h =
    let later = starts-behind hay n (i + 1) (omega (arith, h)) in
    let here = ap (starts i) (drop_more hay i 0 (omega (arith, h))) in
    here ∙ elim (slice_index hay i == 10)
    as (λ b. (if b then (i + 1) ∷ starts (i + 1) (drop (i + 1) hay) else starts (i + 1) (drop (i + 1) hay)) ≡ map (λ at. at + 1) (if b then i ∷ places_from (is_byte 10) hay (i + 1) n else places_from (is_byte 10) hay (i + 1) n)) [
      | true ↦ ap (λ l. (i + 1) ∷ l) later
      | false ↦ later
    ]

pub starts_places : (source : List ℕ) → map (λ at. at + 1) (places (is_byte 10) source) ≡ starts 0 source
starts_places source = sym (starts-behind source (length source - 0) 0 (omega arith))

-- Each is below a bound.
abbrev pub Below : ℕ → List ℕ → Type 0
Below bound [] = ⊤
Below bound (at ∷ rest) = (at < bound) × Below bound rest

below-from : (hay : List ℕ) (n i bound : ℕ) → i + n ≤ bound → Below bound (places_from (is_byte 10) hay i n)
unfolding places_from
below-from hay zero i bound h = tt
below-from hay (suc n) i bound h =
    let later = below-from hay n (i + 1) bound (omega (arith, h)) in
    elim (slice_index hay i == 10)
    as (λ b. Below bound (if b then i ∷ places_from (is_byte 10) hay (i + 1) n else places_from (is_byte 10) hay (i + 1) n)) [
      | true ↦ (omega (arith, h), later)
      | false ↦ later
    ]

pub places_below : (source : List ℕ) → Below (length source) (places (is_byte 10) source)
places_below source = below-from source (length source - 0) 0 (length source) (omega arith)
