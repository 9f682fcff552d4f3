use Rattle.std.proofs.Common.{sym, ◌∙◌}
use Rattle.protox_names.proofs.Pieces.{pushed_in_front}
use Rattle.protox_names.proofs.cases.push_capitalized.Goals as goal

pub returns : goal.returns
returns c =
    pushed_in_front c.push_str.result _ _ _ c.args.piece.now _ _ c.in-Some.first _
    (sym c.chars-others.ensures.rest ∙ c.in-Some.ensures.steps.0)
    c.to_ascii_uppercase.ensures.value
    c.in_ok-push.ensures.bytes
    c.as_str.ensures
    c.push_str.ensures.bytes
