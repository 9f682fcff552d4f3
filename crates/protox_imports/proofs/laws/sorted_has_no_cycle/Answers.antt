use Rattle.protox_imports.proofs.NamesAgree.{ordered_has_no_cycle}
use Rattle.protox_imports.proofs.laws.sorted_has_no_cycle.Goals as goal

pub returns : goal.returns
returns c = ordered_has_no_cycle
