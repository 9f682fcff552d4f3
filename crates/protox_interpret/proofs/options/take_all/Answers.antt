use Rattle.std.proofs.Common.{arith, subst, sym}
use Rattle.protox_interpret.proofs.Kept.{first_wrong, none_taken, taken_more}
use Rattle.protox_interpret.specs.Statements.{IsFirstFault}
use Rattle.protox_interpret.proofs.options.take_all.Goals as goal

pub loop-index-init : goal.loop-index-init
loop-index-init c = none_taken c.args.here c.args.statements.now c.new-work.result c.new-work.ensures

pub returns-in-Err-Fault-clause-err : goal.returns-in-Err-Fault-clause-err
returns-in-Err-Fault-clause-err c =
    let wrong = rw c.in-Err-Fault.field-0-is at c.in-Err-Fault.ensures.err in
    subst (λ kind. IsFirstFault c.args.here c.args.statements.now (record { index = c.loop-index.index; kind = kind })) (sym c.in-Err-Fault.kind-is)
    (first_wrong c.args.here c.args.statements.now c.loop-index.index c.index-statements-index.result c.in-Err-Fault.kind c.loop-index.work (omega arith)
    c.index-statements-index.is wrong c.loop-index.invariant)

pub loop-index-preserved : goal.loop-index-preserved
loop-index-preserved c =
    let (setting, by, added) = c.in-Ok.ensures.ok in
    taken_more c.args.here c.args.statements.now c.loop-index.index c.index-statements-index.result setting c.loop-index.work c.take.new.work (omega arith)
    c.index-statements-index.is by added c.loop-index.invariant
