use Rattle.std.proofs.Common.{◌≡◌, map, take}
use Rattle.protox_describe.specs.Enums.{enum_value_proto}
use Rattle.protox_describe.proofs.enums.enum_values.Given as goal

abbrev pub invariant-loop-value : goal.invariant-loop-value
invariant-loop-value l = l.made.items ≡ map enum_value_proto (take l.value-index l.values)
