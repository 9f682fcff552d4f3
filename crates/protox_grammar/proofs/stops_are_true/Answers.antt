use Rattle.protox_grammar.proofs.Truths as truths
use Rattle.protox_grammar.proofs.stops_are_true.Goals as goal

pub returns-clause-token : goal.returns-clause-token
returns-clause-token c = truths.stop-is-true

pub returns-clause-end : goal.returns-clause-end
returns-clause-end c = truths.end-is-true
