use Rattle.std.proofs.Common.{◌≡◌, ◌++◌, map, take}
use Rattle.protox_ast.specs.Ranges.{extension_range}
use Rattle.protox_describe.proofs.ranges.push_extension_ranges.Given as goal

abbrev pub invariant-loop-range : goal.invariant-loop-range
invariant-loop-range l = l.found ≡ l.initial.found ++ map (extension_range l.greatest l.statement) (take l.range-index l.range-items)
