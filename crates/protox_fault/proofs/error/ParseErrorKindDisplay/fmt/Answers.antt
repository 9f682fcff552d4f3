use Rattle.std.proofs.Common.{append_assoc}
use Rattle.protox_fault.proofs.error.ParseErrorKindDisplay.fmt.Goals as goal

pub returns-in-UnexpectedToken-clause-writes : goal.returns-in-UnexpectedToken-clause-writes
returns-in-UnexpectedToken-clause-writes g c p ok =
    rw c.in-UnexpectedToken.is (simp append_assoc (c.write-in-UnexpectedToken.ensures.writes p ok))

pub returns-in-UnexpectedEof-clause-writes : goal.returns-in-UnexpectedEof-clause-writes
returns-in-UnexpectedEof-clause-writes g c p ok =
    rw c.in-UnexpectedEof.is (c.write-in-UnexpectedEof.ensures.writes p ok)

pub returns-in-InvalidDefault-clause-writes : goal.returns-in-InvalidDefault-clause-writes
returns-in-InvalidDefault-clause-writes g c p ok =
    rw c.in-InvalidDefault.is (c.write-in-InvalidDefault.ensures.writes p ok)

pub returns-in-ValueInvalidType-clause-writes : goal.returns-in-ValueInvalidType-clause-writes
returns-in-ValueInvalidType-clause-writes g c p ok =
    rw c.in-ValueInvalidType.is (simp append_assoc (c.write-in-ValueInvalidType.ensures.writes p ok))

pub returns-in-IntegerValueOutOfRange-clause-writes :
    goal.returns-in-IntegerValueOutOfRange-clause-writes
returns-in-IntegerValueOutOfRange-clause-writes g c p ok =
    rw c.in-IntegerValueOutOfRange.is (simp append_assoc (c.write-in-IntegerValueOutOfRange.ensures.writes p ok))
