use Rattle.std.proofs.Common.{arith, refl}
use Rattle.protox_checks.specs.Nodes.{enum_value_nodes}
use Rattle.protox_checks.proofs.Adding.{all, more}
use Rattle.protox_checks.proofs.enums.check_enum_values.Goals as goal

pub loop-value-preserved : goal.loop-value-preserved
loop-value-preserved c =
    more enum_value_nodes c.args.values.now c.loop-value.value-index c.value-item.result _ _ _ (omega arith) c.value-item.is c.loop-value.invariant c.in_ok-check_enum_value.ensures

pub returns : goal.returns
returns c = all enum_value_nodes c.args.values.now c.args.values.now c.loop-value.value-index _ _ (omega arith) refl c.loop-value.invariant
