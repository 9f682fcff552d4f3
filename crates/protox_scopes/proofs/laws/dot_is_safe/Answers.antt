use Rattle.protox_scopes.proofs.Meaning.{dot_is_safe}
use Rattle.protox_scopes.proofs.laws.dot_is_safe.Goals as goal

pub returns : goal.returns
returns c = dot_is_safe
