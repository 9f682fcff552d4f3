use Rattle.protox_grammar.proofs.Truths as truths
use Rattle.protox_grammar.proofs.spelled_is_expected.Goals as goal

pub returns-clause-token : goal.returns-clause-token
returns-clause-token c = truths.none-is-unexpected

pub returns-clause-end : goal.returns-clause-end
returns-clause-end c = truths.none-is-ended
