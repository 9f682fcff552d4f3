use Rattle.std.proofs.Common.{◌≤◌, arith, length}
use Rattle.protox_link_checks.specs.Extensions.{options_faults}
use Rattle.protox_link_checks.proofs.Folding.{all_told, one_more_told}
use Rattle.protox_link_checks.proofs.extended.check_all_options.Goals as goal

pub loop-extension-preserved : goal.loop-extension-preserved
loop-extension-preserved c =
    one_more_told (options_faults c.args.file c.args.symbols.now) c.args.faults.now.items c.loop-extension.faults.items c.check_options.new.faults.items
    c.args.extensions.now c.loop-extension.extension-index c.extension-item.result c.loop-extension-test.true c.extension-item.is
    c.loop-extension.invariant c.in_ok-check_options.ensures

pub returns : goal.returns
returns c =
    let end : length c.args.extensions.now ≤ c.loop-extension.extension-index = omega arith in
    all_told (options_faults c.args.file c.args.symbols.now) c.args.faults.now.items c.loop-extension.faults.items
    c.args.extensions.now c.loop-extension.extension-index end c.loop-extension.invariant
