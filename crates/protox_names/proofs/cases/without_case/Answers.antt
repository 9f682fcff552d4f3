use Rattle.std.proofs.Common.{None, Some, map, ap, ◌∙◌, rules}
use Rattle.std.specs.Char.{to_ascii_lowercase}
use Rattle.protox_names.proofs.Pieces.{cut, kept_last, kept_more}
use Rattle.protox_names.proofs.cases.without_case.Goals as goal

pub loop-piece-preserved : goal.loop-piece-preserved
loop-piece-preserved c =
    let rest = c.loop-piece.rest.now in
    let at = cut rest (Some (c.in-Some.piece, c.in-Some.more)) c.in-Some.ensures.cases in
    record { text = search rules; made = kept_more rest _ _ _ _ _ at c.loop-piece.invariant.made c.in_ok-push_str.ensures.bytes }

pub loop-piece-smaller : goal.loop-piece-smaller
loop-piece-smaller c = (cut c.loop-piece.rest.now (Some (c.in-Some.piece, c.in-Some.more)) c.in-Some.ensures.cases).shorter

pub returns : goal.returns
returns c =
    let rest = c.loop-piece.rest.now in
    let all = kept_last rest _ _ _ (cut rest None c.in_default.ensures.cases) c.loop-piece.invariant.made c.in_ok-push_str-2.ensures.bytes in
    c.make_ascii_lowercase.ensures.bytes ∙ ap (map to_ascii_lowercase) all
