use Rattle.std.proofs.Common.{◌≡◌}
use Rattle.protox_names.specs.Names.{scopes}
use Rattle.protox_usage.proofs.Outwards.{around, way}
use Rattle.protox_usage.specs.Met.{met_outwards}
use Rattle.protox_usage.specs.Searched.{kind_in, noted, seen_in}
use Rattle.protox_usage.proofs.search.Sight.search.Given as goal

-- What is still to be met is noted in the end.
abbrev pub invariant-loop-place : goal.invariant-loop-place
invariant-loop-place l =
    noted l.self l.used (met_outwards (kind_in l.self) (seen_in l.self) l.wanted l.name (around l.place))
    ≡ noted l.self l.initial.used (met_outwards (kind_in l.self) (seen_in l.self) l.wanted l.name (scopes l.user))

abbrev pub decreases-loop-place : goal.decreases-loop-place
decreases-loop-place l = way l.place
