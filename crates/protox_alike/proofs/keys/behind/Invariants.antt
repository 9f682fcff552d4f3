use Rattle.std.proofs.Common.{◌≡◌, length}
use Rattle.protox_alike.specs.Keys as words
use Rattle.protox_alike.proofs.keys.behind.Given as goal

-- what stands behind the rest of the prefix in the rest of the name
abbrev pub invariant-loop-left : goal.invariant-loop-left
invariant-loop-left l = words.behind l.left l.rest ≡ words.behind l.prefix l.name

abbrev pub decreases-loop-left : goal.decreases-loop-left
decreases-loop-left l = length l.rest
