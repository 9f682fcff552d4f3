use Rattle.std.proofs.Common.{◌≡◌, ℕ, ◌<◌, Bool, ◌∷◌, length, drop, map, ap, sym, refl, ◌∙◌, arith, false, true}
use Rattle.std.proofs.lemmas.Bool.{eqb-false}
use Rattle.std.specs.Cow.{cow_str_bytes}
use Rattle.std.specs.Prelude.{if◌then◌else◌}
use Rattle.protox_comments.specs.inner.Attributing.{outcome, begins_newline}
use Rattle.protox_comments.specs.CommentState.{empty}
use Rattle.protox_lexeme.specs.Gaps.{attribution}
use Rattle.protox_lexeme.specs.Shapes.{BlockComment}
use Rattle.protox_lexeme.specs.Tokens.{shape_of}
use Rattle.protox_comments.proofs.Attributing.{shapes_at, gap_at, is_newline, empty_outcome, attribution_alone, attribution_block}
use Rattle.protox_comments.proofs.comments.begin.Goals as goal

one_token : (b : Bool) (n : ℕ) → n ≡ (if b then 2 else 1) → n ≡ 1 → b ≡ false
one_token true n e h = absurd (omega arith)
one_token false n e h = refl

two_tokens : (b : Bool) (n : ℕ) → n ≡ (if b then 2 else 1) → (n ≡ 1 → ⊥) → b ≡ true
two_tokens true n e h = refl
two_tokens false n e h = absurd (h e)

pub returns-then-block_len-eq1-clause-none : goal.returns-then-block_len-eq1-clause-none
returns-then-block_len-eq1-clause-none c e next =
    let gap = c.args.gap.now in
    let some = eqb-false (length gap) 0 (sym c.is_empty.ensures ∙ c.if-is_empty.false) in
    let here = shapes_at gap 0 c.index-gap-0.result (omega arith) c.index-gap-0.is ∙ ap (λ x. shape_of x ∷ map shape_of (drop 1 gap)) c.in-BlockComment.is in
    let alone = one_token (begins_newline (map shape_of (drop 1 gap))) c.block_len.result c.block_len.ensures.value c.if-block_len-eq1.true in
    ap (λ b. attribution (map shape_of gap) b next) c.if-at_start.false ∙ ap (λ xs. attribution xs false next) here ∙ attribution_alone (cow_str_bytes c.in-BlockComment.field-0) (map shape_of (drop 1 gap)) next alone

pub returns-else-block_len-eq1-clause-some : goal.returns-else-block_len-eq1-clause-some
returns-else-block_len-eq1-clause-some c next =
    let gap = c.args.gap.now in
    let some = eqb-false (length gap) 0 (sym c.is_empty.ensures ∙ c.if-is_empty.false) in
    let here = shapes_at gap 0 c.index-gap-0.result (omega arith) c.index-gap-0.is ∙ ap (λ x. shape_of x ∷ map shape_of (drop 1 gap)) c.in-BlockComment.is in
    let two = two_tokens (begins_newline (map shape_of (drop 1 gap))) c.block_len.result c.block_len.ensures.value c.if-block_len-eq1.false in
    let text = cow_str_bytes c.in-BlockComment.field-0 in
    let rest = map shape_of (drop 1 gap) in
    let turn = empty_outcome true (BlockComment text ∷ rest) next ∙ sym (attribution_block text rest next two) in
    ap (λ s. outcome s (map shape_of gap) next) c.reset-in-BlockComment.ensures ∙ ap (λ xs. outcome (empty true) xs next) here ∙ turn
    ∙ sym (ap (λ xs. attribution xs false next) here) ∙ sym (ap (λ b. attribution (map shape_of gap) b next) c.if-at_start.false)

pub returns-in_default : goal.returns-in_default
returns-in_default c =
    let gap = c.args.gap.now in
    let some = eqb-false (length gap) 0 (sym c.is_empty.ensures ∙ c.if-is_empty.false) in
    let inside : 0 < length gap = omega arith in
    let x = c.index-gap-0.result in
    let newline = is_newline x c.in_default.not-LineComment c.in_default.not-BlockComment (gap_at gap 0 x inside c.index-gap-0.is c.requires.gap) in
    let rest = map shape_of (drop 1 gap) in
    let here = shapes_at gap 0 x inside c.index-gap-0.is ∙ ap (λ y. y ∷ rest) newline in
    record {
      within = omega arith;
      some =
          λ next.
          ap (λ s. outcome s rest next) c.reset-in_default.ensures ∙ empty_outcome true rest next ∙ sym (ap (λ xs. attribution xs false next) here)
          ∙ sym (ap (λ b. attribution (map shape_of gap) b next) c.if-at_start.false);
      none = λ e. absurd (cc);
    }
