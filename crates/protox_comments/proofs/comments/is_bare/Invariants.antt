use Rattle.std.proofs.Common.{drop, map}
use Rattle.protox_comments.specs.inner.Attributing.{Newlines}
use Rattle.protox_lexeme.specs.Tokens.{shape_of}
use Rattle.protox_comments.proofs.comments.is_bare.Given as goal

abbrev pub invariant-loop-token : goal.invariant-loop-token
invariant-loop-token l = Newlines (map shape_of (drop l.token-index l.gap)) → Newlines (map shape_of l.gap)
