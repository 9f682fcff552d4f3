-- Spans in blocks of one width, and how many of them meet a span.
use Rattle.std.proofs.Common.{◌≡◌, ℕ, ◌<◌, ◌≤◌, ◌+◌, ◌-◌, ◌*◌, ◌^◌, List, [], ◌∷◌, ◌++◌, length, get_or, take, drop, Option, Some, None, refl, sym, ◌∙◌, ap, subst, ⊎_elim, arith, length-append}
use Rattle.std.specs.Prelude.{slice_get}
use Rattle.std.specs.Option.{option_map_or}
use Rattle.std.specs.List.{count_by}
use Rattle.std.proofs.Math.Nat.{mul-le-mul_right}
use Rattle.std.proofs.lemmas.Bool.{cases_lt}
use Rattle.std.proofs.lemmas.List.{take_all, get_or_push, get_or_append_left}
use Rattle.std.proofs.lemmas.Option.{slice_get_within, get_or_from_slice_get, slice_get-get_or}
use Rattle.protox_spans.specs.declared.span.Span.{Span}
use Rattle.protox_spans.specs.declared.block.Block.{Block}
use Rattle.protox_spans.specs.declared.levels.Level.{Level}
use Rattle.protox_spans.specs.Spans.{meets}
use Rattle.protox_spans.specs.inner.Blocks.{FitsBlock, IsLevel, AreSorted, count_met, met_at}
use Rattle.protox_spans.proofs.Counting.{count_split}
use Rattle.protox_spans.proofs.Meeting.{met_counts}

-- how many of the first spans of a list meet one
abbrev pub hits : List Span → Span → ℕ → ℕ
hits spans span n = count_by (meets span) (take n spans)

none_behind : {X : Type 0} (xs : List X) (k : ℕ) → slice_get xs k ≡ None → length xs ≤ k
none_behind [] k e = omega arith
none_behind (x ∷ xs) k e =
    ⊎_elim (λ (h : k < length (x ∷ xs)). absurd (let s = slice_get-get_or (x ∷ xs) k x h in cc)) (λ (h : length (x ∷ xs) ≤ k). h) (cases_lt k (length (x ∷ xs)))

past_the_end : (spans : List Span) (span : Span) (a b : ℕ) → length spans ≤ a → a ≤ b
    → hits spans span b ≡ hits spans span a
past_the_end spans span a b h g =
    ap (count_by (meets span)) (take_all b spans (omega arith) ∙ sym (take_all a spans h))

module _ (level : Level) (width : ℕ) (spans : List Span) (span : Span) (numbers : span.start < span.end) (is : IsLevel level width spans) (at : ℕ) where
  of_block : (block : Option Block) → slice_get level.blocks.items at ≡ block
      → hits spans span ((at + 1) * width) ≡ hits spans span (at * width) + option_map_or (λ b. count_met b span) block 0
  of_block None e =
      let behind : length level.blocks.items * width ≤ at * width = mul-le-mul_right width (none_behind level.blocks.items at e) in
      let no_more = past_the_end spans span (at * width) ((at + 1) * width) (omega (arith, is.all, behind)) (omega arith) in
      omega (arith, no_more)
  of_block (Some block) e =
      let within = slice_get_within level.blocks.items at block e in
      let same : get_or level.blocks.items at block ≡ block = get_or_from_slice_get level.blocks.items at block block e in
      let fits : FitsBlock block (take width (drop (at * width) spans)) =
      subst (λ (b : Block). FitsBlock b (take width (drop (at * width) spans))) same (is.fit at block within) in
      let met = met_counts block (take width (drop (at * width) spans)) span numbers fits in
      let split = count_split (meets span) (at * width) width spans in
      let next : (at + 1) * width ≡ at * width + width = omega arith in
      rw next (omega (arith, met, split))

  -- A block of a level tells how many spans of its piece are met.
  pub level_counts : hits spans span ((at + 1) * width) ≡ hits spans span (at * width) + met_at level at span
  level_counts = of_block (slice_get level.blocks.items at) refl

-- The numbers of the blocks of a level are sorted.
pub level_sorted : (level : Level) (width : ℕ) (spans : List Span) → IsLevel level width spans → AreSorted level
level_sorted level width spans is = record {
  starts = λ b d h. (is.fit b d h).starts_up;
  ends = λ b d h. (is.fit b d h).ends_up;
}

-- Where there is something among the spans from `at * width` on, these aren't all before.
pub some_within : (spans : List Span) (span : Span) (a b : ℕ) → a ≤ b → hits spans span a ≡ 0
    → 0 < hits spans span b → a < length spans
some_within spans span a b le none some =
    ⊎_elim (λ (h : a < length spans). h)
    (λ (h : length spans ≤ a). absurd (let e = past_the_end spans span a b h le in omega (arith, e, none, some)))
    (cases_lt a (length spans))

-- One more block.
pub more_blocks : (blocks : List Block) (width : ℕ) (spans : List Span) (block : Block)
    → ((b : ℕ) (d : Block) → b < length blocks → FitsBlock (get_or blocks b d) (take width (drop (b * width) spans)))
    → FitsBlock block (take width (drop (length blocks * width) spans))
    → (b : ℕ) (d : Block) → b < length (blocks ++ block ∷ [])
    → FitsBlock (get_or (blocks ++ block ∷ []) b d) (take width (drop (b * width) spans))
more_blocks blocks width spans block fit last b d h =
    ⊎_elim
    (λ (lt : b < length blocks). rw (get_or_append_left blocks (block ∷ []) d b lt) (fit b d lt))
    (λ (le : length blocks ≤ b).
    let same : length blocks ≡ b = omega (arith, h, length-append blocks (block ∷ [])) in
    rw (get_or_push blocks block d b same) (subst (λ (k : ℕ). FitsBlock block (take width (drop (k * width) spans))) same last))
    (cases_lt b (length blocks))

-- One more level.
pub more_levels : (levels : List Level) (spans : List Span) (level : Level)
    → ((k : ℕ) (d : Level) → k < length levels → IsLevel (get_or levels k d) (2 ^ k) spans)
    → IsLevel level (2 ^ length levels) spans
    → (k : ℕ) (d : Level) → k < length (levels ++ level ∷ [])
    → IsLevel (get_or (levels ++ level ∷ []) k d) (2 ^ k) spans
more_levels levels spans level each last k d h =
    ⊎_elim
    (λ (lt : k < length levels). rw (get_or_append_left levels (level ∷ []) d k lt) (each k d lt))
    (λ (le : length levels ≤ k).
    let same : length levels ≡ k = omega (arith, h, length-append levels (level ∷ [])) in
    rw (get_or_push levels level d k same) (subst (λ (n : ℕ). IsLevel level (2 ^ n) spans) same last))
    (cases_lt k (length levels))
