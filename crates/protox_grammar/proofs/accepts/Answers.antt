use Rattle.protox_grammar.proofs.Main as main
use Rattle.protox_grammar.proofs.accepts.Goals as goal

pub returns : goal.returns
returns g c = main.accepts_iff c.args._tag.now
