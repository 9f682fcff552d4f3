-- Blocks and levels are made one after another.
use Rattle.std.proofs.Common.{◌≡◌, ℕ, suc, ◌<◌, ◌≤◌, ◌+◌, ◌-◌, ◌*◌, ◌^◌, min, List, [], ◌∷◌, ◌++◌, length, get_or, take, drop, sym, ◌∙◌, ap, subst, ⊎_elim, arith, length-append, add-one}
use Rattle.std.proofs.Math.Nat.{pow-suc}
use Rattle.std.proofs.lemmas.Bool.{cases_lt}
use Rattle.std.proofs.lemmas.List.{take_all, drop_all, drop-drop}
use Rattle.protox_spans.specs.declared.span.Span.{Span}
use Rattle.protox_spans.specs.declared.block.Block.{Block}
use Rattle.protox_spans.specs.declared.levels.Level.{Level}
use Rattle.protox_spans.specs.inner.Blocks.{FitsBlock, IsLevel, AreLevels}
use Rattle.protox_spans.proofs.Pieces.{more_blocks, more_levels}

take_least : {X : Type 0} (w : ℕ) (xs : List X) → take (min (length xs) w) xs ≡ take w xs
take_least w xs =
    ⊎_elim
    (λ (lt : w < length xs). let e : min (length xs) w ≡ w = omega arith in ap (λ k. take k xs) e)
    (λ (le : length xs ≤ w). let e : min (length xs) w ≡ length xs = omega arith in
    ap (λ k. take k xs) e ∙ (take_all (length xs) xs (omega arith) ∙ sym (take_all w xs le)))
    (cases_lt w (length xs))

drop_least : {X : Type 0} (w : ℕ) (xs : List X) → drop (min (length xs) w) xs ≡ drop w xs
drop_least w xs =
    ⊎_elim
    (λ (lt : w < length xs). let e : min (length xs) w ≡ w = omega arith in ap (λ k. drop k xs) e)
    (λ (le : length xs ≤ w). let e : min (length xs) w ≡ length xs = omega arith in
    ap (λ k. drop k xs) e ∙ (drop_all (length xs) xs (omega arith) ∙ sym (drop_all w xs le)))
    (cases_lt w (length xs))

abbrev pub Fit : List Block → ℕ → List Span → Type 0
Fit blocks width spans = (b : ℕ) (d : Block) → b < length blocks → FitsBlock (get_or blocks b d) (take width (drop (b * width) spans))

-- One more block, of the front of what is left.
pub level_more : (blocks made : List Block) (width : ℕ) (spans rest piece others : List Span) (block : Block) (n : ℕ)
    → made ≡ blocks ++ block ∷ [] → rest ≡ drop (length blocks * width) spans → n ≡ min (length rest) width
    → piece ≡ take n rest → others ≡ drop n rest → FitsBlock block piece → Fit blocks width spans
    → (others ≡ drop (length made * width) spans) × Fit made width spans
level_more blocks made width spans rest piece others block n grown left least front behind fits fit =
    let longer : length made ≡ length blocks + 1 = ap length grown ∙ length-append blocks (block ∷ []) in
    let next : length blocks * width + width ≡ length made * width = rw longer (omega arith) in
    let this : piece ≡ take width (drop (length blocks * width) spans) =
    front ∙ (ap (λ k. take k rest) least ∙ (take_least width rest ∙ ap (take width) left)) in
    let last = subst (λ (p : List Span). FitsBlock block p) this fits in (
      behind ∙ (ap (λ k. drop k rest) least ∙ (drop_least width rest ∙ (ap (drop width) left
          ∙ (drop-drop width (length blocks * width) spans ∙ ap (λ k. drop k spans) next)))),
      subst (λ (l : List Block). Fit l width spans) (sym grown) (more_blocks blocks width spans block fit last),
    )

abbrev pub Each : List Level → List Span → Type 0
Each levels spans = (k : ℕ) (d : Level) → k < length levels → IsLevel (get_or levels k d) (2 ^ k) spans

module _ (levels made : List Level) (spans : List Span) (level : Level) (width : ℕ) (grown : made ≡ levels ++ level ∷ []) (wide : width ≡ 2 ^ length levels) (each : Each levels spans) (is : IsLevel level width spans) where
  -- One more level, and the width of the next.
  pub levels_more : (width * 2 ≡ 2 ^ length made) × Each made spans
  levels_more =
      let longer : length made ≡ suc (length levels) = ap length grown ∙ (length-append levels (level ∷ []) ∙ add-one (length levels)) in (
        ap (λ w. w * 2) wide ∙ (sym (pow-suc 2 (length levels)) ∙ ap (λ k. 2 ^ k) (sym longer)),
        subst (λ (l : List Level). Each l spans) (sym grown)
            (more_levels levels spans level each (subst (λ (w : ℕ). IsLevel level w spans) wide is)),
      )

  -- The last level.
  pub levels_end : length spans ≤ width → AreLevels made spans
  levels_end h =
      let longer : length made ≡ length levels + 1 = ap length grown ∙ length-append levels (level ∷ []) in
      let before : length levels ≡ length made - 1 = omega arith in
      record {
        some = omega arith;
        each = levels_more.1;
        last = subst (λ (k : ℕ). length spans ≤ 2 ^ k) before (subst (λ (w : ℕ). length spans ≤ w) wide h);
      }
