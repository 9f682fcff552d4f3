use Rattle.protox_grammar.proofs.DeepNoted as laws
use Rattle.protox_grammar.proofs.too_deep_is_noted.Goals as goal

pub returns : goal.returns
returns c = laws.too_deep_is_noted
