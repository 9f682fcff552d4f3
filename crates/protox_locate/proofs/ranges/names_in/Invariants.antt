use Rattle.std.proofs.Common.{map, drop}
use Rattle.protox_places.specs.Lines.{numbers_at}
use Rattle.protox_locate.specs.LocationWords.{reserved_name}
use Rattle.protox_locate.specs.inner.Walk.{ToCome}
use Rattle.protox_locate.proofs.ranges.names_in.Given as goal

abbrev pub invariant-loop-name : goal.invariant-loop-name
invariant-loop-name l =
    ToCome l.initial.context l.context l.tag l.first l.next (map (reserved_name (numbers_at l.lines)) l.names) (map (reserved_name (numbers_at l.lines)) (drop l.name-index l.names))
