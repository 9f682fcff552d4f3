use Rattle.protox_grammar.proofs.PlaceLaws as laws
use Rattle.protox_grammar.proofs.places_are_looked_up.Goals as goal

pub returns-clause-rows : goal.returns-clause-rows
returns-clause-rows c = laws.places_are_looked_up

pub returns-clause-span : goal.returns-clause-span
returns-clause-span c = laws.places_have_spans

pub returns-clause-bare : goal.returns-clause-bare
returns-clause-bare c = laws.spans_are_left
