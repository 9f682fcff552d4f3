use Rattle.std.proofs.Common.{◌+◌, ◌∷◌, drop, map, ap, sym, ◌∙◌}
use Rattle.std.specs.Cow.{cow_str_bytes}
use Rattle.protox_comments.specs.inner.Attributing.{outcome}
use Rattle.protox_comments.specs.CommentState.{with_line, with_block}
use Rattle.protox_lexeme.specs.Tokens.{shape_of}
use Rattle.protox_comments.proofs.Attributing.{shapes_at, line_turn, block_turn, flush_turn, no_other, gap_at}
use Rattle.protox_comments.proofs.comments.Comments.take_at.Goals as goal

pub returns-in_ok-add_line-in-LineComment-clause-value :
    goal.returns-in_ok-add_line-in-LineComment-clause-value
returns-in_ok-add_line-in-LineComment-clause-value c next =
    let gap = c.args.gap.now in
    let at = c.args.at in
    let here = shapes_at gap at c.index-gap-at.result c.requires.inside c.index-gap-at.is ∙ ap (λ x. shape_of x ∷ map shape_of (drop (at + 1) gap)) c.in-LineComment.is in
    let turn = line_turn c.args.self.now (cow_str_bytes c.in-LineComment.text) (map shape_of (drop (at + 1) gap)) next in
    let state = c.in_ok-add_line-in-LineComment.ensures.ok ∙ ap (λ t. with_line t c.args.self.now) c.as_str.ensures.value in
    ap (λ s. outcome s (map shape_of (drop (at + 1) gap)) next) state ∙ turn ∙ ap (λ xs. outcome c.args.self.now xs next) (sym here)

pub returns-in_ok-block_comment-in-BlockComment-clause-value :
    goal.returns-in_ok-block_comment-in-BlockComment-clause-value
returns-in_ok-block_comment-in-BlockComment-clause-value c next =
    let gap = c.args.gap.now in
    let at = c.args.at in
    let text = cow_str_bytes c.in-BlockComment.text in
    let rest = map shape_of (drop (at + c.block_len.result) gap) in
    let here = shapes_at gap at c.index-gap-at.result c.requires.inside c.index-gap-at.is ∙ ap (λ x. shape_of x ∷ map shape_of (drop (at + 1) gap)) c.in-BlockComment.is in
    let turn = block_turn c.args.self.now text (map shape_of (drop (at + 1) gap)) rest next (c.block_len.ensures.items text) in
    let state = c.in_ok-block_comment-in-BlockComment.ensures.ok ∙ ap (λ t. with_block t c.args.self.now) c.as_str-in-BlockComment.ensures.value in
    ap (λ s. outcome s rest next) state ∙ turn ∙ ap (λ xs. outcome c.args.self.now xs next) (sym here)

pub returns-in_ok-flush-in-Newline-clause-value : goal.returns-in_ok-flush-in-Newline-clause-value
returns-in_ok-flush-in-Newline-clause-value c next =
    let gap = c.args.gap.now in
    let at = c.args.at in
    let here = shapes_at gap at c.index-gap-at.result c.requires.inside c.index-gap-at.is ∙ ap (λ x. shape_of x ∷ map shape_of (drop (at + 1) gap)) c.in-Newline.is in
    let turn = flush_turn c.args.self.now (map shape_of (drop (at + 1) gap)) next in
    ap (λ s. outcome s (map shape_of (drop (at + 1) gap)) next) c.in_ok-flush-in-Newline.ensures.ok ∙ turn ∙ ap (λ xs. outcome c.args.self.now xs next) (sym here)

pub returns-in_default : goal.returns-in_default
returns-in_default c =
    let gap = gap_at c.args.gap.now c.args.at c.index-gap-at.result c.requires.inside c.index-gap-at.is c.requires.comments in
    absurd (no_other c.index-gap-at.result c.in_default.not-LineComment c.in_default.not-BlockComment c.in_default.not-Newline gap)
