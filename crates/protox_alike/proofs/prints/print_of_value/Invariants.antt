use Rattle.std.proofs.Common.{◌≡◌, true, length}
use Rattle.protox_alike.specs.Keys as words
use Rattle.protox_alike.specs.inner.Prints.{print_from, print_of}
use Rattle.protox_alike.proofs.prints.print_of_value.Given as goal

-- the number so far, and then the rest
abbrev pub invariant-loop-rest : goal.invariant-loop-rest
invariant-loop-rest l = print_from l.print (words.pascal_from l.starts l.rest) ≡ print_of (words.pascal_from true (words.without_prefix l.prefix l.name))

abbrev pub decreases-loop-rest : goal.decreases-loop-rest
decreases-loop-rest l = length l.rest
