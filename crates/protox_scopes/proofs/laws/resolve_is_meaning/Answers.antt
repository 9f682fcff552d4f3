use Rattle.protox_scopes.proofs.Meaning.{resolve_is_meaning}
use Rattle.protox_scopes.proofs.laws.resolve_is_meaning.Goals as goal

pub returns : goal.returns
returns c = resolve_is_meaning
