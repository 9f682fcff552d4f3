use Rattle.std.proofs.Common.{◌≡◌, take}
use Rattle.protox_pool.proofs.comments.copied_all.Given as goal

-- those before the index are copied
abbrev pub invariant-loop-comment : goal.invariant-loop-comment
invariant-loop-comment l = l.made ≡ take l.comment-index l.comments
