-- The steps of the search for the first span that is met.
use Rattle.std.proofs.Common.{◌≡◌, ◌≢◌, ℕ, suc, ◌<◌, ◌≤◌, ◌+◌, ◌-◌, ◌*◌, ◌^◌, Bool, false, ◌&&◌, cond, nat_lt, List, [], ◌∷◌, ◌++◌, length, get_or, map, take, Some, None, refl, sym, ◌∙◌, ap, subst, arith}
use Rattle.std.specs.List.{count_by}
use Rattle.std.proofs.Math.Nat.{pow-suc, mul-le-mul_left}
use Rattle.std.proofs.lemmas.List.{map_more, take_all}
use Rattle.std.proofs.lemmas.Nat.{pow_pos}
use Rattle.std.proofs.lemmas.Bool.Decides.{nat_tests}
use Rattle.protox_spans.specs.declared.span.Span.{Span}
use Rattle.protox_spans.specs.declared.levels.Level.{Level}
use Rattle.protox_spans.specs.Spans.{first_met_in, has_numbers, meets}
use Rattle.protox_spans.specs.inner.Blocks.{AreLevels, IsLevel}
use Rattle.protox_spans.proofs.Counting.{count_cons, no_position, position_at}
use Rattle.protox_spans.proofs.Pieces.{hits, some_within}

-- the level at a place
pub level_at : (levels : List Level) (spans : List Span) (k : ℕ) (level : Level) → AreLevels levels spans
    → k < length levels → level ≡ get_or levels k level → IsLevel level (2 ^ k) spans
level_at levels spans k level are lt is = subst (λ (l : Level). IsLevel l (2 ^ k) spans) (sym is) (are.each k level lt)

-- One more span that is looked up.
pub more_found : {X Y : Type 0} (f : X → Y) (made new : List Y) (xs : List X) (i : ℕ) (d : X) (r : Y)
    → new ≡ made ++ r ∷ [] → made ≡ map f (take i xs) → r ≡ f (get_or xs i d) → i < length xs
    → new ≡ map f (take (i + 1) xs)
more_found f made new xs i d r grown before here h = let more = map_more f xs i d h in cc

fails : (a b c d : Bool) → a ≡ false → cond {A = ℕ} ((a && b) && (c && d)) 1 0 ≡ 0
fails a b c d e = rw e refl

none_in : (a b : ℕ) → b ≤ a → nat_lt a b ≡ false
none_in a b h = grind (arith, nat_tests)

positive : (k : ℕ) → 1 ≤ 2 ^ k
positive k = let h = pow_pos k in omega (arith, h)

twice : (k level : ℕ) → level ≡ suc k → 2 ^ level ≡ 2 ^ k * 2
twice k level e = ap (λ n. 2 ^ n) e ∙ pow-suc 2 k

module _ (span : Span) where
  without : span.end ≤ span.start → (spans : List Span) → count_by (meets span) spans ≡ 0
  without h [] = refl
  without h (s ∷ spans) =
      let empty : has_numbers span ≡ false = none_in span.start span.end h in
      let here = fails (has_numbers span) (has_numbers s) (nat_lt span.start s.end) (nat_lt s.start span.end) empty in
      omega (arith, here, without h spans, count_cons (meets span) s spans)

  -- A span without numbers meets none.
  pub empty_meets_none : (spans : List Span) → span.end ≤ span.start → None ≡ first_met_in spans span
  empty_meets_none spans h = sym (no_position (meets span) spans (without h spans))

  module _ (spans : List Span) where
    -- Where the first block of the last level has no span that is met, there is none.
    pub none_met : (w m : ℕ) → hits spans span ((0 + 1) * w) ≡ hits spans span (0 * w) + m → m ≡ 0
        → length spans ≤ w → None ≡ first_met_in spans span
    none_met w m counts nothing h =
        let start : 0 * w ≡ 0 = omega arith in
        let all : (0 + 1) * w ≡ w = omega arith in
        let first : hits spans span (0 * w) ≡ 0 = ap (hits spans span) start in
        let whole : hits spans span ((0 + 1) * w) ≡ count_by (meets span) spans =
        ap (hits spans span) all ∙ ap (count_by (meets span)) (take_all w spans h) in
        sym (no_position (meets span) spans (omega (arith, counts, nothing, first, whole)))

    -- Otherwise the search begins there.
    pub begins : (w m : ℕ) → hits spans span ((0 + 1) * w) ≡ hits spans span (0 * w) + m → m ≢ 0
        → (hits spans span (0 * w) ≡ 0) × (0 < hits spans span ((0 + 1) * w))
    begins w m counts some =
        let start : 0 * w ≡ 0 = omega arith in
        let first : hits spans span (0 * w) ≡ 0 = ap (hits spans span) start in
        (first, omega (arith, counts, some, first))

    module _ (at level k : ℕ) (next : level ≡ suc k) (none : hits spans span (at * 2 ^ level) ≡ 0) (some : 0 < hits spans span ((at + 1) * 2 ^ level)) where
      front : at * 2 * 2 ^ k ≡ at * 2 ^ level
      front = let e : at * 2 ^ level ≡ at * (2 ^ k * 2) = ap (λ w. at * w) (twice k level next) in omega (arith, e)

      whole : (at * 2 + 1 + 1) * 2 ^ k ≡ (at + 1) * 2 ^ level
      whole = let e : (at + 1) * 2 ^ level ≡ (at + 1) * (2 ^ k * 2) = ap (λ w. (at + 1) * w) (twice k level next) in omega (arith, e)

      before : hits spans span (at * 2 * 2 ^ k) ≡ 0
      before = ap (hits spans span) front ∙ none

      -- Half of a block where some span is met: the first half.
      pub first_half : (m : ℕ) → hits spans span ((at * 2 + 1) * 2 ^ k) ≡ hits spans span (at * 2 * 2 ^ k) + m → m ≢ 0
          → (hits spans span (at * 2 * 2 ^ k) ≡ 0) × (0 < hits spans span ((at * 2 + 1) * 2 ^ k))
      first_half m counts met = let b = before in (b, omega (arith, counts, met, b))

      -- the second half
      pub second_half : (m : ℕ) → hits spans span ((at * 2 + 1) * 2 ^ k) ≡ hits spans span (at * 2 * 2 ^ k) + m → m ≡ 0
          → (hits spans span ((at * 2 + 1) * 2 ^ k) ≡ 0) × (0 < hits spans span ((at * 2 + 1 + 1) * 2 ^ k))
      second_half m counts met =
          let b = before in
          let e : hits spans span ((at * 2 + 1 + 1) * 2 ^ k) ≡ hits spans span ((at + 1) * 2 ^ level) = ap (hits spans span) whole in
          (omega (arith, counts, met, b), omega (arith, e, some))

      -- The halves of a block where some span is met begin before the end.
      pub halves_within : at * 2 + 1 ≤ length spans
      halves_within =
          let le : at * 2 ^ level ≤ (at + 1) * 2 ^ level = omega arith in
          let lt = some_within spans span (at * 2 ^ level) ((at + 1) * 2 ^ level) le none some in
          let pow : 2 ^ level ≡ 2 ^ k * 2 = twice k level next in
          let one : 1 ≤ 2 ^ k = positive k in
          let more : at * 2 * 1 ≤ at * 2 * 2 ^ k = mul-le-mul_left (at * 2) one in
          let f = front in
          omega (arith, lt, more, f)

    -- At the end, the block is a single span.
    pub found : (at level : ℕ) → level ≤ 0 → hits spans span (at * 2 ^ level) ≡ 0
        → 0 < hits spans span ((at + 1) * 2 ^ level) → Some at ≡ first_met_in spans span
    found at level h none some =
        let zero_level : level ≡ 0 = omega arith in
        let one : 2 ^ level ≡ 1 = ap (λ k. 2 ^ k) zero_level in
        let place : at * 2 ^ level ≡ at = ap (λ w. at * w) one ∙ omega arith in
        let next : (at + 1) * 2 ^ level ≡ at + 1 = ap (λ w. (at + 1) * w) one ∙ omega arith in
        sym (position_at (meets span) spans at (ap (hits spans span) (sym place) ∙ none)
        (subst (λ (n : ℕ). 0 < hits spans span n) next some))
