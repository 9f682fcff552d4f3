use Rattle.std.proofs.Common.{◌≡◌, filter, map, take}
use Rattle.std.specs.List.{flat_map}
use Rattle.protox_usage.specs.Lookups.{is_extension, lookup_of_options, lookup_of_part}
use Rattle.protox_usage.specs.Searched.{met_by, noted}
use Rattle.protox_usage.proofs.search.Sight.search_option.Given as goal

abbrev pub invariant-loop-part : goal.invariant-loop-part
invariant-loop-part l =
    l.used ≡ noted l.self (noted l.self l.fn.used (met_by l.self (lookup_of_options l.user)))
    (flat_map (met_by l.self) (map (lookup_of_part l.user) (filter is_extension (take l.part-index l.parts))))
