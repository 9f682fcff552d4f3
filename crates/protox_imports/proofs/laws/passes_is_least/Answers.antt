use Rattle.protox_imports.proofs.NamesAgree.{sees_the_least}
use Rattle.protox_imports.proofs.laws.passes_is_least.Goals as goal

pub returns : goal.returns
returns c = sees_the_least
