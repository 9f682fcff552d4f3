use Rattle.std.proofs.Common.{arith}
use Rattle.protox_numbers.specs.Numbers.{of_field}
use Rattle.protox_numbers.proofs.Telling.{turned}
use Rattle.protox_numbers.proofs.message.field_spans.Goals as goal

pub loop-field-preserved : goal.loop-field-preserved
loop-field-preserved c =
    turned of_field c.loop-field.made.items c.push.new.self.items c.as_slice-fields.result.now c.loop-field.field-index
    c.field-item.result c.of_field.result c.in_ok-push.ensures.items c.loop-field.invariant c.of_field.ensures
    c.field-item.is (omega arith)
