use Rattle.std.proofs.Common.{◌≡◌, ◌++◌, None, Some, IfOk, string_bytes, ap, subst, ◌∙◌, rules}
use Rattle.protox_names.proofs.Pieces.{camel_alone, camel_first, camel_last, camel_more, cut}
use Rattle.protox_names.proofs.cases.json_name.Goals as goal

pub returns-in_default : goal.returns-in_default
returns-in_default c =
    let name = c.args.name.now in
    subst (λ all. IfOk c.from_str.result (λ made. string_bytes made ≡ all)) (camel_alone name (cut name None c.in_default.ensures.cases)) c.from_str.ensures.ok

pub loop-piece-init : goal.loop-piece-init
loop-piece-init c =
    let name = c.args.name.now in
    let at = cut name (Some (c.in-Some.first, c.in-Some.rest)) c.in-Some.ensures.cases in
    record { text = search rules; made = camel_first name _ _ _ at (c.in_ok-push_str.ensures.bytes ∙ ap (λ made. made ++ c.in-Some.first.now) c.in_ok-made.ensures.bytes) }

pub loop-piece-smaller : goal.loop-piece-smaller
loop-piece-smaller c = (cut c.loop-piece.rest.now (Some (c.in-Some-split_once.piece, c.in-Some-split_once.more)) c.in-Some-split_once.ensures.cases).shorter

pub loop-piece-preserved : goal.loop-piece-preserved
loop-piece-preserved c =
    let rest = c.loop-piece.rest.now in
    let at = cut rest (Some (c.in-Some-split_once.piece, c.in-Some-split_once.more)) c.in-Some-split_once.ensures.cases in
    record { text = search rules; made = camel_more rest _ _ _ _ _ at c.loop-piece.invariant.made c.in_ok-push_capitalized.ensures }

pub returns : goal.returns
returns c =
    let rest = c.loop-piece.rest.now in
    camel_last rest _ _ _ (cut rest None c.in_default-split_once.ensures.cases) c.loop-piece.invariant.made c.in_ok-push_capitalized-2.ensures
