use Rattle.std.proofs.Common.{◌∙◌}
use Rattle.protoparse_words.proofs.Lists.{joined_more}
use Rattle.protoparse_words.proofs.paths.joined.Goals as goal

pub loop-i-preserved : goal.loop-i-preserved
loop-i-preserved c = c.in_ok-push_part.ensures ∙ joined_more c.args.parts.now c.loop-i.i _ _ c.loop-i-test.true c.loop-i.invariant
