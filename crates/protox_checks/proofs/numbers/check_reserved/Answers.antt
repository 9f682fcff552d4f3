use Rattle.std.proofs.Common.{arith, refl}
use Rattle.protox_checks.specs.inner.Walk.{number_node}
use Rattle.protox_checks.proofs.Adding.{all, more, same}
use Rattle.protox_checks.proofs.NodeLevels.{kind_nodes, reserved-flat}
use Rattle.protox_checks.proofs.numbers.check_reserved.Goals as goal

pub loop-statement-preserved : goal.loop-statement-preserved
loop-statement-preserved c =
    more (kind_nodes (number_node c.args.numbering)) c.args.statements.now c.loop-statement.statement-index c.statement-item.result _ _ _ (omega arith) c.statement-item.is c.loop-statement.invariant c.in_ok-check_kind_ranges.ensures

pub returns : goal.returns
returns c =
    same _ _ _ _ (reserved-flat (number_node c.args.numbering) c.args.statements.now)
    (all (kind_nodes (number_node c.args.numbering)) c.args.statements.now c.args.statements.now c.loop-statement.statement-index _ _ (omega arith) refl c.loop-statement.invariant)
