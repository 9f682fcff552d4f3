use Rattle.protox_grammar.proofs.PassedOver as laws
use Rattle.protox_grammar.proofs.none_is_passed_over.Goals as goal

pub returns : goal.returns
returns c = laws.none_is_passed_over
