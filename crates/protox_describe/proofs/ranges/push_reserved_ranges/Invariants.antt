use Rattle.std.proofs.Common.{◌≡◌, ◌++◌, map, take}
use Rattle.protox_ast.specs.Ranges.{reserved_range}
use Rattle.protox_describe.proofs.ranges.push_reserved_ranges.Given as goal

abbrev pub invariant-loop-range : goal.invariant-loop-range
invariant-loop-range l = l.found ≡ l.initial.found ++ map (reserved_range l.greatest) (take l.range-index l.ranges)
