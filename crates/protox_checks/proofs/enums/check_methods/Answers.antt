use Rattle.std.proofs.Common.{ap, arith, refl}
use Rattle.protox_ast.specs.Options.{bodies_of}
use Rattle.protox_checks.specs.Nodes.{method_nodes, option_nodes}
use Rattle.protox_checks.proofs.Adding.{all, more, same}
use Rattle.protox_checks.proofs.enums.check_methods.Goals as goal

pub loop-method-preserved : goal.loop-method-preserved
loop-method-preserved c =
    more method_nodes c.args.methods.now c.loop-method.method-index c.method-item.result _ _ _ (omega arith) c.method-item.is c.loop-method.invariant
    (same _ _ _ _ (ap (λ l. option_nodes (bodies_of l)) c.as_slice.ensures) c.in_ok-check_statements.ensures)

pub returns : goal.returns
returns c = all method_nodes c.args.methods.now c.args.methods.now c.loop-method.method-index _ _ (omega arith) refl c.loop-method.invariant
