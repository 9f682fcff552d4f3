use Rattle.std.proofs.Common.{◌≡◌, ◌||◌, take}
use Rattle.std.specs.List.{flat_map, list_any}
use Rattle.protox_usage.specs.Lookups.{lookups_of_options, may_use_more}
use Rattle.protox_usage.specs.Options.{options_of_range}
use Rattle.protox_usage.specs.Searched.{met_by, noted}
use Rattle.protox_usage.proofs.search.Sight.search_ranges.Given as goal

abbrev pub invariant-loop-range : goal.invariant-loop-range
invariant-loop-range l =
    (l.found.used ≡ noted l.self l.initial.found.used (flat_map (λ range. flat_map (met_by l.self) (lookups_of_options l.user (options_of_range range))) (take l.range-index l.ranges)))
    × (l.found.guesses ≡ (l.initial.found.guesses || list_any may_use_more (flat_map options_of_range (take l.range-index l.ranges))))
