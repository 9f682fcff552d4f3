use Rattle.std.proofs.Common.{append_assoc, sym}
use Rattle.protox_shown.proofs.shown.ShownFaultDisplay.fmt.Goals as goal

pub returns-in-UnexpectedToken-clause-writes : goal.returns-in-UnexpectedToken-clause-writes
returns-in-UnexpectedToken-clause-writes g c p ok =
    rw c.in-UnexpectedToken.is (simp append_assoc (rw (sym c.as_str-in-UnexpectedToken.ensures) (c.write-in-UnexpectedToken.ensures.writes p ok)))

pub returns-in-ValueInvalidType-clause-writes : goal.returns-in-ValueInvalidType-clause-writes
returns-in-ValueInvalidType-clause-writes g c p ok =
    rw c.in-ValueInvalidType.is (simp append_assoc (rw (sym c.as_str-in-ValueInvalidType.ensures) (c.write-in-ValueInvalidType.ensures.writes p ok)))
