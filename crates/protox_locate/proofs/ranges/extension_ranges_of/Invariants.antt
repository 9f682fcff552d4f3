use Rattle.std.proofs.Common.{map, drop}
use Rattle.protox_descriptor.specs.declared.tag.message.TheConstants.{EXTENSION_RANGE}
use Rattle.protox_places.specs.Lines.{numbers_at}
use Rattle.protox_locate.specs.LocationWords.{extension_range}
use Rattle.protox_locate.specs.inner.Walk.{ToCome}
use Rattle.protox_locate.proofs.ranges.extension_ranges_of.Given as goal

abbrev pub invariant-loop-range : goal.invariant-loop-range
invariant-loop-range l =
    ToCome l.initial.context l.context EXTENSION_RANGE l.first l.next (map (extension_range (numbers_at l.lines) l.statement) l.statement.ranges) (map (extension_range (numbers_at l.lines) l.statement) (drop l.range-index l.statement.ranges))
