use Rattle.protox_grammar.proofs.Fronts as fronts
use Rattle.protox_grammar.proofs.too_deep.Goals as goal

pub returns : goal.returns
returns g c = fronts.too_deep c.args._tag.now
