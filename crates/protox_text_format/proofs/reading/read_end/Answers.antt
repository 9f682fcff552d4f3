use Rattle.std.proofs.Common.{reverse}
use Rattle.protox_text_format.proofs.Steps.{go_close}
use Rattle.protox_text_format.proofs.Stops.{close_frame, marks_other, marks_same, stuck_no_end, stuck_other_end}
use Rattle.protox_text_format.proofs.reading.read_end.Goals as goal

pub returns-in_default-clause-err : goal.returns-in_default-clause-err
returns-in_default-clause-err c =
    stuck_no_end (reverse c.args.frames.now.items) c.args.angle c.args.left.now c.args.more.now c.args.items.now.items
    c.in_default.ensures c.requires

pub returns-then-frame-angle-clause-err : goal.returns-then-frame-angle-clause-err
returns-then-frame-angle-clause-err c =
    stuck_other_end (reverse c.args.frames.now.items) (reverse c.leave.new.frames.items) c.in-Some.frame c.args.angle
    c.args.left.now c.args.more.now c.args.items.now.items c.end_of.result
    c.in-Some.ensures (marks_other c.in-Some.frame.angle c.args.angle c.if-frame-angle.true) c.requires c.end_of.ensures

pub returns-clause-ok : goal.returns-clause-ok
returns-clause-ok c =
    go_close c.args.angle c.in-Some.frame.in_list (reverse c.args.frames.now.items) (reverse c.leave.new.frames.items)
    c.args.left.now c.args.more.now c.args.items.now.items c.add.new.items.items
    (close_frame (reverse c.args.frames.now.items) (reverse c.leave.new.frames.items) c.in-Some.frame c.args.angle
    c.in-Some.ensures (marks_same c.in-Some.frame.angle c.args.angle c.if-frame-angle.false)) c.requires c.in-Ok.ensures
