use Rattle.protox_link.proofs.Again.{known_again, linked_again}
use Rattle.protox_link.proofs.laws.linked_again.Goals as goal

pub returns-clause-linked : goal.returns-clause-linked
returns-clause-linked c = linked_again

pub returns-clause-known : goal.returns-clause-known
returns-clause-known c = known_again
