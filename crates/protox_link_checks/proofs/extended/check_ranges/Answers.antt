use Rattle.std.proofs.Common.{◌≤◌, arith, length}
use Rattle.protox_link_checks.specs.Extensions.{range_faults, ranges_numbered}
use Rattle.protox_link_checks.proofs.Folding.{all_told, one_more_told}
use Rattle.protox_link_checks.proofs.extended.check_ranges.Goals as goal

pub loop-extension-preserved : goal.loop-extension-preserved
loop-extension-preserved c files table h =
    one_more_told (λ e. range_faults c.args.file (ranges_numbered files table e.message) e) c.args.faults.now.items c.loop-extension.faults.items c.check_range.new.faults.items
    c.args.extensions.now c.loop-extension.extension-index c.extension-item.result c.loop-extension-test.true c.extension-item.is
    (c.loop-extension.invariant files table h) (c.in_ok-check_range.ensures files table h)

pub returns : goal.returns
returns c files table h =
    let end : length c.args.extensions.now ≤ c.loop-extension.extension-index = omega arith in
    all_told (λ e. range_faults c.args.file (ranges_numbered files table e.message) e) c.args.faults.now.items c.loop-extension.faults.items
    c.args.extensions.now c.loop-extension.extension-index end (c.loop-extension.invariant files table h)
