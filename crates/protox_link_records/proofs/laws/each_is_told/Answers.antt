use Rattle.protox_link_records.proofs.EachTold.{each_is_told}
use Rattle.protox_link_records.proofs.laws.each_is_told.Goals as goal

pub returns : goal.returns
returns c = each_is_told
