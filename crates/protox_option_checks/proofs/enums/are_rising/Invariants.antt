use Rattle.protox_option_checks.proofs.Rising.{AreRisingTo}
use Rattle.protox_option_checks.proofs.enums.are_rising.Given as goal

abbrev pub invariant-loop-span : goal.invariant-loop-span
invariant-loop-span l = AreRisingTo l.spans l.span-index l.least
