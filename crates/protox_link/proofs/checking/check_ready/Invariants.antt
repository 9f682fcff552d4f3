use Rattle.protox_link.proofs.Doing.{AreToldTo}
use Rattle.protox_link.proofs.checking.check_ready.Given as goal

abbrev pub invariant-loop-number : goal.invariant-loop-number
invariant-loop-number l = AreToldTo l.files l.number l.faults.items
