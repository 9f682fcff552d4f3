use Rattle.std.proofs.Common.{refl}
use Rattle.protox_text_format.proofs.Steps.{go_scalar}
use Rattle.protox_text_format.proofs.Stops.{stuck_scalar}
use Rattle.protox_text_format.proofs.reading.read_scalar.Goals as goal

pub returns-in-Err-clause-err : goal.returns-in-Err-clause-err
returns-in-Err-clause-err c frames =
    stuck_scalar c.args.in_list frames c.args.left.now c.in-Err.wrong.now c.args.items.now.items
    c.requires.no_brace c.requires.no_angle c.in-Err.ensures

pub returns-clause-ok : goal.returns-clause-ok
returns-clause-ok c frames =
    go_scalar c.args.in_list frames c.args.left.now c.in-Ok.more.now c.args.items.now.items c.add.new.items.items _
    c.in-Ok.ensures c.in-Ok-add.ensures refl
