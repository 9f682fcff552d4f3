use Rattle.protox_grammar.proofs.NotedTrue as laws
use Rattle.protox_grammar.proofs.NotedTrueOf as laws_of
use Rattle.protox_grammar.proofs.noted_is_true.Goals as goal

pub returns-clause-node : goal.returns-clause-node
returns-clause-node c = laws.noted_is_true

pub returns-clause-fault : goal.returns-clause-fault
returns-clause-fault c = laws_of.noted_is_true_of
