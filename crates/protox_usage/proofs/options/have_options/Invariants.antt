use Rattle.std.proofs.Common.{◌≡◌, false, take}
use Rattle.std.specs.List.{flat_map}
use Rattle.protox_usage.specs.Options.{are_some, options_of_range}
use Rattle.protox_usage.proofs.options.have_options.Given as goal

abbrev pub invariant-loop-range : goal.invariant-loop-range
invariant-loop-range l = are_some (flat_map options_of_range (take l.range-index l.ranges)) ≡ false
