use Rattle.protox_link.proofs.Seeing.{only_where_wrong}
use Rattle.protox_link.proofs.laws.only_where_wrong.Goals as goal

pub returns : goal.returns
returns c = only_where_wrong
