use Rattle.std.proofs.Common.{◌≡◌, take}
use Rattle.std.specs.List.{flat_map}
use Rattle.protox_usage.specs.Lookups.{lookups_of_option}
use Rattle.protox_usage.specs.Searched.{met_by, noted}
use Rattle.protox_usage.proofs.search.Sight.search_options.Given as goal

abbrev pub invariant-loop-option : goal.invariant-loop-option
invariant-loop-option l =
    (l.found.used ≡ noted l.self l.initial.found.used (flat_map (λ option. flat_map (met_by l.self) (lookups_of_option l.user option)) (take l.option-index l.options)))
    × (l.found.guesses ≡ l.initial.found.guesses)
