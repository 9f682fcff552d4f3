use Rattle.std.proofs.Common.{arith, refl}
use Rattle.protox_checks.specs.Nodes.{extensions_nodes}
use Rattle.protox_checks.proofs.Adding.{all, more}
use Rattle.protox_checks.proofs.numbers.check_extensions.Goals as goal

pub loop-statement-preserved : goal.loop-statement-preserved
loop-statement-preserved c =
    more extensions_nodes c.args.statements.now c.loop-statement.statement-index c.statement-item.result _ _ _ (omega arith) c.statement-item.is c.loop-statement.invariant c.in_ok-check_statement.ensures

pub returns : goal.returns
returns c = all extensions_nodes c.args.statements.now c.args.statements.now c.loop-statement.statement-index _ _ (omega arith) refl c.loop-statement.invariant
