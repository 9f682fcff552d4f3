use Rattle.protox_imports.proofs.OneOrder.{visits_one}
use Rattle.protox_imports.proofs.laws.depth_first_is_one.Goals as goal

pub returns : goal.returns
returns c = λ rows order other. visits_one
