-- Where nothing clashes.
use Rattle.std.proofs.Common.{◌≡◌, ◌<◌, ◌≤◌, ◌==◌, ◌+◌, ◌⊎◌, inl, inr, ℕ, suc, Bool, true, false, cond, ◌&&◌, nat_lt, List, [], ◌∷◌, ◌++◌, get_or, length, map, Option, Some, None, refl, sym, ap, ◌∙◌, arith}
use Rattle.std.proofs.lemmas.Bool.{false≢true}
use Rattle.std.proofs.lemmas.Bool.Decides.{Decides-eqb, nat_tests}
use Rattle.std.proofs.lemmas.List.{get_or-map, length-map}
use Rattle.std.proofs.lemmas.List.Quantifiers.{position-Some}
use Rattle.protox_spans.specs.declared.span.Span.{Span}
use Rattle.protox_spans.specs.Spans.{first_met_in, meets}
use Rattle.protox_numbers.specs.Clashes.{clash_of, clashes_from, with_earlier, with_first}

module _ (counts : ℕ → ℕ → Bool) where
  -- no part has a clash
  pub none_from : (start : ℕ) (met : List (Option ℕ)) → ((i : ℕ) → i < length met → clash_of counts (start + i) (get_or met i None) ≡ []) → clashes_from counts start met ≡ []
  none_from start [] none = refl
  none_from start (m ∷ met) none =
      ap (λ first. first ++ clashes_from counts (start + 1) met) (ap (λ n. clash_of counts n m) (omega arith) ∙ none 0 (omega arith))
      ∙ none_from (start + 1) met (λ i below. ap (λ n. clash_of counts n (get_or met i None)) (omega arith) ∙ none (suc i) (omega (arith, below)))

  -- nothing is met in an empty table
  pub empty_from : (start : ℕ) (spans : List Span) → clashes_from counts start (map (first_met_in []) spans) ≡ []
  empty_from start [] = refl
  empty_from start (s ∷ spans) = empty_from (start + 1) spans

-- Nothing clashes with what is in an empty table.
pub none_in_empty : (spans : List Span) → with_first (map (first_met_in []) spans) ≡ []
none_in_empty spans = empty_from (λ part with_. true) 0 spans

not_below : (a b : ℕ) → b ≤ a → nat_lt a b ≡ false
not_below a b h = grind (arith, nat_tests)

and_false : (a b : Bool) → b ≡ false → (a && b) ≡ false
and_false true b h = h
and_false false b h = refl

-- a span that begins where another one ends, or behind, doesn't meet it
apart : (s t : Span) → t.end ≤ s.start → meets s t ≡ false
apart s t h = and_false _ _ (ap (λ test. test && nat_lt t.start s.end) (not_below s.start t.end h))

is_below : (q n : ℕ) → (q < n) ⊎ (n ≤ q)
is_below q n = grind arith

-- What is met stands at or behind the part itself.
pub none_earlier : (part : ℕ) (met : Option ℕ) → ((n : ℕ) → met ≡ Some n → part ≤ n) → clash_of (λ p w. nat_lt w p) part met ≡ []
none_earlier part None behind = refl
none_earlier part (Some n) behind = ap (λ test. cond test (record { part = part; «with» = n } ∷ []) []) (not_below n part (behind n refl))

module _ (spans : List Span) (rising : (i j : ℕ) (d : Span) → i < j → j < length spans → (get_or spans i d).end ≤ (get_or spans j d).start) where
  behind : (part n : ℕ) (d : Span) → part < length spans → first_met_in spans (get_or spans part d) ≡ Some n → part ≤ n
  behind part n d below found =
      let at = position-Some (meets (get_or spans part d)) spans n d found in
      elim (is_below n part) [
        | inl earlier ↦ absurd (false≢true (sym (apart (get_or spans part d) (get_or spans n d) (rising n part d earlier below)) ∙ at.1))
        | inr later ↦ later
      ]

  -- Where each span ends before the next one begins, none meets an earlier one.
  pub none_if_rising : with_earlier (map (first_met_in spans) spans) ≡ []
  none_if_rising =
      let none : Span = record { start = 0; end = 0 } in
      none_from (λ p w. nat_lt w p) 0 (map (first_met_in spans) spans)
      (λ i below. none_earlier (0 + i) (get_or (map (first_met_in spans) spans) i None)
      (λ n found.
      let within : i < length spans = omega (arith, below, length-map spans (first_met_in spans)) in
      omega (arith, behind i n none within (sym (get_or-map (first_met_in spans) spans i none None within) ∙ found))))

empty_list : {X : Type 0} (xs : List X) → (length xs == 0) ≡ true → xs ≡ []
empty_list [] h = refl
empty_list (x ∷ xs) h = absurd (omega (arith, (Decides-eqb (length (x ∷ xs)) 0).0 h))

-- Nothing clashes with ranges that aren't there.
pub none_if_empty : {X : Type 0} (span_of : X → Span) (ranges : List X) (spans : List Span) (test : Bool) → test ≡ (length ranges == 0) → test ≡ true → with_first (map (first_met_in (map span_of ranges)) spans) ≡ []
none_if_empty span_of ranges spans test is empty =
    ap (λ all. with_first (map (first_met_in (map span_of all)) spans)) (empty_list ranges (sym is ∙ empty)) ∙ none_in_empty spans
