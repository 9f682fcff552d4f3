use Rattle.std.proofs.Common.{◌≡◌, ◌++◌, drop, map, take}
use Rattle.protox_moved.specs.Moved.{moved}
use Rattle.protox_moved.proofs.steps.give_paths.Given as goal

-- those before the index have their new paths
abbrev pub invariant-loop-location : goal.invariant-loop-location
invariant-loop-location l =
    l.locations
    ≡ map (moved l.moves) (take l.location-index l.fn.locations)
    ++ drop l.location-index l.fn.locations
