use Rattle.std.proofs.Common.{arith, ◌++◌}
use Rattle.protox_ast.specs.Options.{listed}
use Rattle.protox_checks.specs.Nodes.{AMessageNumber, option_nodes, range_nodes}
use Rattle.protox_checks.proofs.Adding.{all, more-at}
use Rattle.protox_checks.proofs.numbers.check_statement.Goals as goal

pub loop-range-preserved : goal.loop-range-preserved
loop-range-preserved c =
    more-at (λ range. option_nodes (listed c.args.statement.now.options) ++ range_nodes AMessageNumber range) c.as_slice-range-items.result.now c.loop-range.range-index _ _ _ _ (omega arith) c.loop-range.invariant c.in_ok-check_extension_range.ensures

pub returns : goal.returns
returns c =
    all (λ range. option_nodes (listed c.args.statement.now.options) ++ range_nodes AMessageNumber range) c.as_slice-range-items.result.now c.args.statement.now.ranges c.loop-range.range-index _ _ (omega arith) c.as_slice-range-items.ensures c.loop-range.invariant
