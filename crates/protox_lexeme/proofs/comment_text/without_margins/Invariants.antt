use Rattle.std.proofs.Common.{◌≡◌, length, drop}
use Rattle.std.specs.Str.{chars}
use Rattle.protox_lexeme.specs.BlockComments.{comment_text}
use Rattle.protox_lexeme.specs.inner.Kept.{finished}
use Rattle.protox_lexeme.proofs.comment_text.without_margins.Given as goal

abbrev pub invariant-loop-c : goal.invariant-loop-c
invariant-loop-c l = finished l.kept (drop (length l.yielded) (chars l.content)) ≡ comment_text l.content
