use Rattle.std.proofs.Common.{refl}
use Rattle.protox_text_format.proofs.Steps.{go_name}
use Rattle.protox_text_format.proofs.Stops.{stuck_name}
use Rattle.protox_text_format.proofs.reading.read_name.Goals as goal

pub returns-in-Err-clause-err : goal.returns-in-Err-clause-err
returns-in-Err-clause-err c frames some =
    stuck_name frames c.args.left.now c.in-Err.wrong.now c.in-Err.kind c.args.items.now.items
    c.requires.no_brace c.requires.no_angle some c.in-Err.ensures.err

pub returns-clause-ok : goal.returns-clause-ok
returns-clause-ok c frames =
    go_name frames c.args.left.now c.in-Ok.more.now c.behind_colon-colon.result.1.now c.behind_colon-colon.result.0
    c.args.items.now.items c.add.new.items.items _ c.in-Ok.ensures.ok c.behind_colon-colon.ensures c.in-Ok-add.ensures refl
