use Rattle.protox_link_checks.proofs.Ranging.{AreKept}
use Rattle.protox_link_checks.proofs.ranges.spans_of.Given as goal

abbrev pub invariant-loop-number : goal.invariant-loop-number
invariant-loop-number l = AreKept l.files l.symbols l.number l.made.items
