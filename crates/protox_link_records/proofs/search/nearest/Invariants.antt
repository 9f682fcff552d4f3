use Rattle.std.proofs.Common.{◌≡◌, ◌-◌, length}
use Rattle.protox_link_records.specs.LinkPlaces.{nearest}
use Rattle.protox_link_records.proofs.search.nearest.Given as goal

abbrev pub invariant-loop-shorter : goal.invariant-loop-shorter
invariant-loop-shorter l = nearest l.path (length l.path) l.info.location ≡ nearest l.path (length l.path - l.shorter) l.info.location
