use Rattle.protox_grammar.proofs.NotedTrue as laws
use Rattle.protox_grammar.proofs.all_is_noted.Goals as goal

pub returns : goal.returns
returns c = laws.all_is_noted
