use Rattle.std.proofs.Common.{◌≡◌, ◌++◌, map, take}
use Rattle.protox_ast.specs.Ranges.{enum_reserved_range}
use Rattle.protox_describe.proofs.ranges.push_enum_ranges.Given as goal

abbrev pub invariant-loop-range : goal.invariant-loop-range
invariant-loop-range l = l.found ≡ l.initial.found ++ map enum_reserved_range (take l.range-index l.ranges)
