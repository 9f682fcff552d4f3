use Rattle.std.proofs.Common.{arith}
use Rattle.protox_numbers.specs.Numbers.{of_extension_range}
use Rattle.protox_numbers.proofs.Telling.{turned}
use Rattle.protox_numbers.proofs.message.extension_spans.Goals as goal

pub loop-range-preserved : goal.loop-range-preserved
loop-range-preserved c =
    turned of_extension_range c.loop-range.made.items c.push.new.self.items c.as_slice-ranges.result.now c.loop-range.range-index
    c.range-item.result c.of_extension_range.result c.in_ok-push.ensures.items c.loop-range.invariant c.of_extension_range.ensures.is
    c.range-item.is (omega arith)
