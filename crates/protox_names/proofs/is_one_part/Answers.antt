use Rattle.protox_names.proofs.Dots.{is_whole}
use Rattle.protox_names.proofs.is_one_part.Goals as goal

pub returns : goal.returns
returns c = is_whole c.args.name.now c.first_dot.result c.first_dot.ensures
