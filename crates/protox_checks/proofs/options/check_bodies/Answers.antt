use Rattle.std.proofs.Common.{arith, refl}
use Rattle.protox_checks.proofs.Adding.{all, more, same}
use Rattle.protox_checks.proofs.NodeLevels.{bodies-flat, body_node}
use Rattle.protox_checks.proofs.options.check_bodies.Goals as goal

pub loop-body-preserved : goal.loop-body-preserved
loop-body-preserved c =
    more body_node c.args.bodies.now c.loop-body.body-index c.body-item.result _ _ _ (omega arith) c.body-item.is c.loop-body.invariant c.in_ok-check_body.ensures

pub returns : goal.returns
returns c = same _ _ _ _ (bodies-flat c.args.bodies.now) (all body_node c.args.bodies.now c.args.bodies.now c.loop-body.body-index _ _ (omega arith) refl c.loop-body.invariant)
