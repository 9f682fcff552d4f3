use Rattle.std.proofs.Common.{◌≡◌, ◌++◌, true, length}
use Rattle.protox_alike.specs.Keys as words
use Rattle.protox_alike.proofs.keys.key_of_value.Given as goal

-- the key so far, and then that of the rest
abbrev pub invariant-loop-rest : goal.invariant-loop-rest
invariant-loop-rest l = l.key.items ++ words.pascal_from l.starts l.rest ≡ words.pascal_from true (words.without_prefix l.prefix l.name)

abbrev pub decreases-loop-rest : goal.decreases-loop-rest
decreases-loop-rest l = length l.rest
