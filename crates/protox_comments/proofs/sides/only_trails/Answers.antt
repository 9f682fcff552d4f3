use Rattle.std.proofs.Common.{◌∷◌, ◌∙◌, List, map, drop, length, ap, sym, arith, false}
use Rattle.std.proofs.lemmas.Bool.{eqb-false}
use Rattle.std.specs.Cow.{cow_str_bytes}
use Rattle.protox_lexeme.specs.Gaps.{Attribution, attribution}
use Rattle.protox_lexeme.specs.Shapes.{Shape}
use Rattle.protox_lexeme.specs.Tokens.{shape_of}
use Rattle.protox_comments.proofs.Attributing.{shapes_at, line-alone}
use Rattle.protox_comments.proofs.sides.only_trails.Goals as goal

pub returns-in-LineComment-clause-detached : goal.returns-in-LineComment-clause-detached
returns-in-LineComment-clause-detached c e next =
    let gap = c.args.gap.now in
    let some = eqb-false (length gap) 0 (sym c.is_empty.ensures ∙ c.if-is_empty.false) in
    let here = shapes_at gap 0 c.index-gap-0.result (omega arith) c.index-gap-0.is ∙ ap (λ x. shape_of x ∷ map shape_of (drop 1 gap)) c.in-LineComment.is in
    ap (λ (g : List Shape). (attribution g false next).detached) here
    ∙ ap (λ (a : Attribution). a.detached) (line-alone (cow_str_bytes c.in-LineComment.field-0) (map shape_of (drop 1 gap)) next (c.are_newlines.ensures e))

pub returns-in-LineComment-clause-leading : goal.returns-in-LineComment-clause-leading
returns-in-LineComment-clause-leading c e next =
    let gap = c.args.gap.now in
    let some = eqb-false (length gap) 0 (sym c.is_empty.ensures ∙ c.if-is_empty.false) in
    let here = shapes_at gap 0 c.index-gap-0.result (omega arith) c.index-gap-0.is ∙ ap (λ x. shape_of x ∷ map shape_of (drop 1 gap)) c.in-LineComment.is in
    ap (λ (g : List Shape). (attribution g false next).leading) here
    ∙ ap (λ (a : Attribution). a.leading) (line-alone (cow_str_bytes c.in-LineComment.field-0) (map shape_of (drop 1 gap)) next (c.are_newlines.ensures e))
