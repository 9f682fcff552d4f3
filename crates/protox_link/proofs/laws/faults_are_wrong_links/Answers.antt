use Rattle.protox_link.proofs.WrongListed.{wrong_is_told}
use Rattle.protox_link.proofs.WrongTold.{told_is_wrong}
use Rattle.protox_link.proofs.laws.faults_are_wrong_links.Goals as goal

pub returns : goal.returns
returns c = λ files faults told fault. (told_is_wrong files faults told fault, wrong_is_told files faults told fault)
