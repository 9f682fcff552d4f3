use Rattle.protox_text_format.proofs.Steps.{go_comma, go_last}
use Rattle.protox_text_format.proofs.Stops.{stuck_next}
use Rattle.protox_text_format.proofs.reading.read_next.Goals as goal

pub returns-in-Some-clause-ok : goal.returns-in-Some-clause-ok
returns-in-Some-clause-ok c frames = go_comma frames c.args.left.now c.in-Some.left.now c.args.items.now.items c.in-Some.ensures

pub returns-in_default-behind-clause-err : goal.returns-in_default-behind-clause-err
returns-in_default-behind-clause-err c frames = stuck_next frames c.args.left.now c.args.items.now.items c.in_default.ensures c.in_default-behind.ensures

pub returns-clause-ok : goal.returns-clause-ok
returns-clause-ok c frames =
    go_last frames c.args.left.now c.in-Some-behind.more.now c.args.items.now.items c.add.new.items.items
    c.in-Some-behind.ensures c.in-Ok.ensures
