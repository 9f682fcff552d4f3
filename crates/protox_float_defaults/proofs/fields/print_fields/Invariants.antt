use Rattle.std.proofs.Common.{◌≡◌, ◌++◌, drop, map, take}
use Rattle.protox_float_defaults.specs.Printed.{with_new_default}
use Rattle.protox_float_defaults.proofs.fields.print_fields.Given as goal

abbrev pub invariant-loop-field : goal.invariant-loop-field
invariant-loop-field l = l.field-items ≡ map with_new_default (take l.field-index l.initial.field-items) ++ drop l.field-index l.initial.field-items
