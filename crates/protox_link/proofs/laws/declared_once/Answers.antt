use Rattle.protox_link.proofs.Closing.{declared_once}
use Rattle.protox_link.proofs.laws.declared_once.Goals as goal

pub returns : goal.returns
returns c = declared_once
