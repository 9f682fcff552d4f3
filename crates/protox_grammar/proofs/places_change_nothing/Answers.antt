use Rattle.protox_grammar.proofs.PlaceLaws as laws
use Rattle.protox_grammar.proofs.places_change_nothing.Goals as goal

pub returns-clause-noted : goal.returns-clause-noted
returns-clause-noted c = laws.noted_alike

pub returns-clause-wrong : goal.returns-clause-wrong
returns-clause-wrong c = laws.wrong_alike
