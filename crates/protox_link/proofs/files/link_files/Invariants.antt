use Rattle.protox_link.proofs.LinkingRight.{AreLinkedTo}
use Rattle.protox_link.proofs.files.link_files.Given as goal

abbrev pub invariant-loop-number : goal.invariant-loop-number
invariant-loop-number l = AreLinkedTo l.fn.files l.number l.files
