use Rattle.std.proofs.Common.{◌≡◌, ◌++◌, All, map, take}
use Rattle.protox_link_checks.specs.Ranges.{IsSmall, moved}
use Rattle.protox_numbers.specs.Numbers.{of_extension_range}
use Rattle.protox_link_checks.proofs.ranges.push_ranges.Given as goal

abbrev pub invariant-loop-range : goal.invariant-loop-range
invariant-loop-range l = record {
  added : l.spans.items ≡ l.initial.spans.items ++ map (moved l.number) (map of_extension_range (take l.range-index l.ranges));
  small : All IsSmall (map of_extension_range (take l.range-index l.ranges));
}
