use Rattle.protox_text_format.proofs.Steps.{colon_none, colon_there}
use Rattle.protox_text_format.proofs.reading.behind_colon.Goals as goal

pub returns-in-Some : goal.returns-in-Some
returns-in-Some c = colon_there c.args.left.now c.in-Some.more.now c.in-Some.ensures

pub returns-in-None : goal.returns-in-None
returns-in-None c = colon_none c.args.left.now c.in-None.ensures
