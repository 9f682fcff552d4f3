use Rattle.std.proofs.Common.{map, drop}
use Rattle.protox_places.specs.Lines.{numbers_at}
use Rattle.protox_locate.specs.LocationWords.{range_locations}
use Rattle.protox_locate.specs.inner.Walk.{ToCome}
use Rattle.protox_locate.proofs.ranges.ranges_in.Given as goal

abbrev pub invariant-loop-range : goal.invariant-loop-range
invariant-loop-range l =
    ToCome l.initial.context l.context l.tag l.first l.next (map (range_locations (numbers_at l.lines)) l.ranges) (map (range_locations (numbers_at l.lines)) (drop l.range-index l.ranges))
