use Rattle.protox_link.proofs.Seeing.{one_linking, one_list}
use Rattle.protox_link.proofs.laws.one_answer.Goals as goal

pub returns-clause-faults : goal.returns-clause-faults
returns-clause-faults c = λ files faults other here there. one_list files files 0 faults other here there

pub returns-clause-linked : goal.returns-clause-linked
returns-clause-linked c = λ files made other here there. one_linking files files 0 made other here there
