use Rattle.protox_grammar.proofs.Main as main
use Rattle.protox_grammar.proofs.one_tree.Goals as goal

pub returns : goal.returns
returns g c = main.one_tree c.args._tag.now
