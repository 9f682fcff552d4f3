use Rattle.protox_link.proofs.Behind.{local}
use Rattle.protox_link.proofs.laws.local.Goals as goal

pub returns : goal.returns
returns c = local
