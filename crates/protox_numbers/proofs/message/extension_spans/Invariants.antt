use Rattle.std.proofs.Common.{◌≡◌, map, take}
use Rattle.protox_numbers.specs.Numbers.{of_extension_range}
use Rattle.protox_numbers.proofs.message.extension_spans.Given as goal

abbrev pub invariant-loop-range : goal.invariant-loop-range
invariant-loop-range l = l.made.items ≡ map of_extension_range (take l.range-index l.ranges)
