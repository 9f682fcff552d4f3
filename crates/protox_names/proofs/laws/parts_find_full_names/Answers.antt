use Rattle.protox_names.proofs.Walking.{parts_find_full_names}
use Rattle.protox_names.proofs.laws.parts_find_full_names.Goals as goal

pub returns : goal.returns
returns c = parts_find_full_names
