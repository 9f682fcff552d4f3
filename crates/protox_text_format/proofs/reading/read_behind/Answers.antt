use Rattle.protox_text_format.proofs.reading.read_behind.Goals as goal

pub returns-then-in_list-clause-ok : goal.returns-then-in_list-clause-ok
returns-then-in_list-clause-ok c = rw c.if-in_list.true c.read_next.ensures.ok

pub returns-clause-ok : goal.returns-clause-ok
returns-clause-ok c frames = rw c.if-in_list.false (c.read_mark.ensures frames c.args.items.now.items)
