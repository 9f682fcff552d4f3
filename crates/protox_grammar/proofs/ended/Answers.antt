use Rattle.protox_grammar.proofs.Fronts as fronts
use Rattle.protox_grammar.proofs.ended.Goals as goal

pub returns : goal.returns
returns g c = fronts.ended c.args._tag.now
