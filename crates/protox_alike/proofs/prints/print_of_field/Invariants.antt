use Rattle.std.proofs.Common.{◌≡◌, length}
use Rattle.protox_alike.specs.inner.Prints.{print_from, print_of}
use Rattle.protox_names.specs.Cases.{without_case}
use Rattle.protox_alike.proofs.prints.print_of_field.Given as goal

-- the number so far, and then the rest
abbrev pub invariant-loop-rest : goal.invariant-loop-rest
invariant-loop-rest l = print_from l.print (without_case l.rest) ≡ print_of (without_case l.name)

abbrev pub decreases-loop-rest : goal.decreases-loop-rest
decreases-loop-rest l = length l.rest
