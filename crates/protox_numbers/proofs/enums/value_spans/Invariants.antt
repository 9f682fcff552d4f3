use Rattle.std.proofs.Common.{◌≡◌, map, take}
use Rattle.protox_numbers.specs.Numbers.{of_value}
use Rattle.protox_numbers.proofs.enums.value_spans.Given as goal

abbrev pub invariant-loop-value : goal.invariant-loop-value
invariant-loop-value l = l.made.items ≡ map of_value (take l.value-index l.values)
