use Rattle.protox_grammar.proofs.OneOfThree as laws
use Rattle.protox_grammar.proofs.one_of_three.Goals as goal

pub returns : goal.returns
returns g c = laws.one_of_three c.args._tag.now
