use Rattle.std.proofs.Common.{arith}
use Rattle.protox_numbers.specs.Numbers.{of_value}
use Rattle.protox_numbers.proofs.Telling.{turned}
use Rattle.protox_numbers.proofs.enums.value_spans.Goals as goal

pub loop-value-preserved : goal.loop-value-preserved
loop-value-preserved c =
    turned of_value c.loop-value.made.items c.push.new.self.items c.as_slice-values.result.now c.loop-value.value-index
    c.value-item.result c.of_value.result c.in_ok-push.ensures.items c.loop-value.invariant c.of_value.ensures
    c.value-item.is (omega arith)
