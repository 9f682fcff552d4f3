use Rattle.protox_scopes.proofs.Renumbered.{numbers_dont_matter}
use Rattle.protox_scopes.proofs.laws.numbers_dont_matter.Goals as goal

pub returns : goal.returns
returns c = numbers_dont_matter
