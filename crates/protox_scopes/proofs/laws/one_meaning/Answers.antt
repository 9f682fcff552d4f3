use Rattle.protox_scopes.proofs.Meaning.{one_meaning}
use Rattle.protox_scopes.proofs.laws.one_meaning.Goals as goal

pub returns : goal.returns
returns c = one_meaning
