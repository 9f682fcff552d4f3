use Rattle.std.proofs.Common.{map, drop}
use Rattle.protox_descriptor.specs.declared.tag.enum_.TheConstants.{VALUE}
use Rattle.protox_places.specs.Lines.{numbers_at}
use Rattle.protox_locate.specs.EnumLocations.{enum_value_locations}
use Rattle.protox_locate.specs.inner.Walk.{ToCome}
use Rattle.protox_locate.proofs.enums.locate_values.Given as goal

abbrev pub invariant-loop-value : goal.invariant-loop-value
invariant-loop-value l =
    ToCome l.initial.context l.context VALUE 0 l.next (map (enum_value_locations (numbers_at l.lines)) l.values) (map (enum_value_locations (numbers_at l.lines)) (drop l.value-index l.values))
