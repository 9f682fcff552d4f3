use Rattle.protox_grammar.proofs.TagLaws as laws
use Rattle.protox_grammar.proofs.tags_change_nothing.Goals as goal

pub returns-clause-outcome : goal.returns-clause-outcome
returns-clause-outcome g c = laws.same_outcome

pub returns-clause-steps : goal.returns-clause-steps
returns-clause-steps g c = laws.same_steps
