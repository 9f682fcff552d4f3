use Rattle.protox_numbers.proofs.Rising.{AreRisingTo}
use Rattle.protox_numbers.proofs.message.are_rising.Given as goal

abbrev pub invariant-loop-field : goal.invariant-loop-field
invariant-loop-field l = AreRisingTo l.fields l.field-index l.least
