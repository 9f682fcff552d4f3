use Rattle.protox_ast.proofs.Lemmas.{source-stands}
use Rattle.protox_grammar.proofs.nodes_stand_in_source.Goals as goal

pub returns : goal.returns
returns c = source-stands
