use Rattle.std.proofs.Common.{◌≡◌, None, drop}
use Rattle.std.specs.Option.{option_copied}
use Rattle.protox_places.specs.inner.Nearer.{best_of}
use Rattle.protox_places.proofs.at.nearest.Given as goal

abbrev pub invariant-loop-location : goal.invariant-loop-location
invariant-loop-location l =
    best_of (l.line, l.column) None l.locations ≡ best_of (l.line, l.column) (option_copied l.best) (drop l.location-index l.locations)
