use Rattle.std.proofs.Common.{arith, subst}
use Rattle.protox_link_checks.specs.Ranges.{AreRangesOf}
use Rattle.protox_symbols.specs.Symbols.{Table}
use Rattle.protox_link.proofs.Doing.{all_told, one_told}
use Rattle.protox_link.proofs.Paths.{files_stand}
use Rattle.protox_link.proofs.checking.check_ready.Goals as goal

pub loop-number-preserved : goal.loop-number-preserved
loop-number-preserved c =
    let file = c.index-files-number.result in
    one_told c.args.files.now c.loop-number.number file c.loop-number.faults.items c.check_one.new.faults.items (omega arith) c.index-files-number.is
    c.loop-number.invariant
    (c.in_ok-check_one.ensures c.args.files.now c.requires (subst (λ (t : Table). AreRangesOf c.args.files.now t c.in_ok-ranges.ranges) c.requires.table c.in_ok-ranges.ensures))

pub returns-clause-faults : goal.returns-clause-faults
returns-clause-faults c = all_told c.args.files.now c.loop-number.number c.loop-number.faults.items (omega arith) c.loop-number.invariant

pub returns-clause-stands : goal.returns-clause-stands
returns-clause-stands c =
    files_stand c.args.files.now c.loop-number.faults.items
    (all_told c.args.files.now c.loop-number.number c.loop-number.faults.items (omega arith) c.loop-number.invariant)
