use Rattle.protox_grammar.proofs.Fronts as fronts
use Rattle.protox_grammar.proofs.unexpected.Goals as goal

pub returns : goal.returns
returns g c = fronts.unexpected c.args._tag.now
