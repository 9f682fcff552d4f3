use Rattle.std.proofs.Common.{append_assoc}
use Rattle.protox_values.proofs.text.EnumFaultTextDisplay.fmt.Goals as goal

pub returns-in-NoSuchValue-clause-writes : goal.returns-in-NoSuchValue-clause-writes
returns-in-NoSuchValue-clause-writes g c p ok = rw c.in-NoSuchValue.is (simp append_assoc (c.write-in-NoSuchValue.ensures.writes p ok))
