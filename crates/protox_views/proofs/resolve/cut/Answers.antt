use Rattle.std.proofs.Common.{sym}
use Rattle.protox_names.proofs.Lemmas.{front_of_one_part}
use Rattle.protox_views.proofs.resolve.cut.Goals as goal

pub returns-in-None-clause-front : goal.returns-in-None-clause-front
returns-in-None-clause-front c = sym (front_of_one_part c.args.name.now c.in-None.ensures.none)
