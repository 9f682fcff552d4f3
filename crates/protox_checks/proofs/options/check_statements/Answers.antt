use Rattle.std.proofs.Common.{arith, refl}
use Rattle.protox_checks.proofs.Adding.{all, more, same}
use Rattle.protox_checks.proofs.NodeLevels.{statement_node, statements-flat}
use Rattle.protox_checks.proofs.options.check_statements.Goals as goal

pub loop-statement-preserved : goal.loop-statement-preserved
loop-statement-preserved c =
    more statement_node c.args.statements.now c.loop-statement.statement-index c.statement-item.result _ _ _ (omega arith) c.statement-item.is c.loop-statement.invariant c.in_ok-check_body.ensures

pub returns : goal.returns
returns c = same _ _ _ _ (statements-flat c.args.statements.now) (all statement_node c.args.statements.now c.args.statements.now c.loop-statement.statement-index _ _ (omega arith) refl c.loop-statement.invariant)
