use Rattle.protox_grammar.proofs.InsideLaws as laws
use Rattle.protox_grammar.proofs.insides_are_open.Goals as goal

pub returns-clause-inside : goal.returns-clause-inside
returns-clause-inside c = laws.inside_is_open

pub returns-clause-open : goal.returns-clause-open
returns-clause-open c = laws.open_is_inside
