use Rattle.protox_text_format.proofs.Steps.{go_first, go_none}
use Rattle.protox_text_format.proofs.reading.read_first.Goals as goal

pub returns-in_default-clause-ok : goal.returns-in_default-clause-ok
returns-in_default-clause-ok c frames = go_first frames c.args.left.now c.args.items.now.items c.in_default.ensures

pub returns-clause-ok : goal.returns-clause-ok
returns-clause-ok c frames =
    go_none frames c.args.left.now c.in-Some.more.now c.args.items.now.items c.add.new.items.items
    c.in-Some.ensures c.in-Ok.ensures
