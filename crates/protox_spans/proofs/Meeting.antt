-- How many spans of a list meet a span.
use Rattle.std.proofs.Common.{◌≡◌, ℕ, ◌<◌, ◌≤◌, ◌+◌, ◌-◌, Bool, true, false, cond, ◌&&◌, nat_lt, List, [], ◌∷◌, ◌++◌, length, get_or, take, ap, ◌∙◌, refl, arith}
use Rattle.std.specs.List.{count_by}
use Rattle.std.proofs.lemmas.List.{take_all, take_more}
use Rattle.std.specs.List.Sorted.{IsPermutation}
use Rattle.std.proofs.lemmas.List.Sorted.{sum_by-IsPermutation}
use Rattle.std.proofs.lemmas.Bool.Decides.{nat_tests}
use Rattle.protox_spans.specs.declared.span.Span.{Span}
use Rattle.protox_spans.specs.declared.block.Block.{Block}
use Rattle.protox_spans.specs.Spans.{has_numbers, meets}
use Rattle.protox_spans.specs.inner.Blocks.{Counts, FitsBlock, count_met}
use Rattle.protox_spans.proofs.Counting.{count_cons, count_push}

-- Sorted, the numbers count the same.
pub sorted_counts : (numbers sorted : List ℕ) (side : Span → ℕ) (spans : List Span)
    → IsPermutation numbers sorted → Counts numbers side spans → Counts sorted side spans
sorted_counts numbers sorted side spans moved counts t =
    sum_by-IsPermutation (λ x. cond (nat_lt x t) 1 0) numbers sorted moved ∙ counts t

counts_as : (b e : Bool) → b ≡ true → cond {A = ℕ} (b && e) 1 0 ≡ cond e 1 0
counts_as b e h = rw h refl

counts_nothing : (b e : Bool) → b ≡ false → cond {A = ℕ} (b && e) 1 0 ≡ 0
counts_nothing b e h = rw h refl

below : (a b : ℕ) → a < b → nat_lt a b ≡ true
below a b h = grind (arith, nat_tests)

not_below : (a b : ℕ) → b ≤ a → nat_lt a b ≡ false
not_below a b h = grind (arith, nat_tests)

-- At the end, all spans are counted.
pub all_counted : (numbers : List ℕ) (side : Span → ℕ) (spans : List Span) (i : ℕ)
    → length spans ≤ i → Counts numbers side (take i spans) → Counts numbers side spans
all_counted numbers side spans i h counts t =
    counts t ∙ ap (count_by (λ (s : Span). has_numbers s && nat_lt (side s) t)) (take_all i spans h)

module _ (side : Span → ℕ) (spans : List Span) (i : ℕ) (d : Span) (within : i < length spans) (numbers : List ℕ) (counts : Counts numbers side (take i spans)) where
  -- One more span with numbers, and its number, count the same.
  pub one_more : (made : List ℕ) → (get_or spans i d).start < (get_or spans i d).end
      → made ≡ numbers ++ side (get_or spans i d) ∷ [] → Counts made side (take (i + 1) spans)
  one_more made lt e t =
      let s = get_or spans i d in
      let numbered : has_numbers s ≡ true = below s.start s.end lt in
      let ours = ap (count_by (λ x. nat_lt x t)) e ∙ count_push (λ x. nat_lt x t) numbers (side s) in
      let theirs = ap (count_by (λ (s : Span). has_numbers s && nat_lt (side s) t)) (take_more spans i d within)
      ∙ count_push (λ (s : Span). has_numbers s && nat_lt (side s) t) (take i spans) s in
      let same = counts_as (has_numbers s) (nat_lt (side s) t) numbered in
      omega (arith, ours, theirs, same, counts t)

  -- One more span without numbers changes no count.
  pub one_without : (get_or spans i d).end ≤ (get_or spans i d).start → Counts numbers side (take (i + 1) spans)
  one_without le t =
      let s = get_or spans i d in
      let numbered : has_numbers s ≡ false = not_below s.start s.end le in
      let theirs = ap (count_by (λ (s : Span). has_numbers s && nat_lt (side s) t)) (take_more spans i d within)
      ∙ count_push (λ (s : Span). has_numbers s && nat_lt (side s) t) (take i spans) s in
      let same = counts_nothing (has_numbers s) (nat_lt (side s) t) numbered in
      omega (arith, theirs, same, counts t)

-- A span with numbers begins below a bound if it ends up to there, or if it meets what begins
-- there.
one : (a b s e : ℕ) → s < e → cond (nat_lt a b && nat_lt a e) 1 0 ≡ cond (nat_lt a b && nat_lt b (s + 1)) 1 0 + cond ((nat_lt s e && nat_lt a b) && (nat_lt s b && nat_lt a e)) 1 0
one a b s e h = grind (arith, nat_tests)

all : (span : Span) → span.start < span.end → (spans : List Span)
    → count_by (λ s. has_numbers s && nat_lt s.start span.end) spans
    ≡ count_by (λ s. has_numbers s && nat_lt s.end (span.start + 1)) spans + count_by (meets span) spans
all span h [] = refl
all span h (s ∷ spans) =
    let here = one s.start s.end span.start span.end h in
    let rest = all span h spans in
    omega (
      arith,
      here,
      rest,
      count_cons (λ (t : Span). has_numbers t && nat_lt t.start span.end) s spans,
      count_cons (λ (t : Span). has_numbers t && nat_lt t.end (span.start + 1)) s spans,
      count_cons (meets span) s spans,
    )

-- A block counts the spans that meet one.
pub met_counts : (block : Block) (spans : List Span) (span : Span) → span.start < span.end
    → FitsBlock block spans → count_met block span ≡ count_by (meets span) spans
met_counts block spans span h fits =
    let begun = fits.starts span.end in
    let ended = fits.ends (span.start + 1) in
    let both = all span h spans in
    omega (arith, begun, ended, both)
