use Rattle.std.proofs.Common.{append_assoc}
use Rattle.protox_settings.proofs.text.NotInBracesTextDisplay.fmt.Goals as goal

pub returns-clause-writes : goal.returns-clause-writes
returns-clause-writes g c p ok = simp append_assoc (c.write.ensures.writes p ok)
