use Rattle.std.proofs.Common.{◌≡◌, map, take}
use Rattle.protox_numbers.specs.Numbers.{of_field}
use Rattle.protox_numbers.proofs.message.field_spans.Given as goal

abbrev pub invariant-loop-field : goal.invariant-loop-field
invariant-loop-field l = l.made.items ≡ map of_field (take l.field-index l.fields)
