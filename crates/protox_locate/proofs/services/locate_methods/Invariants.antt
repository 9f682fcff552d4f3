use Rattle.std.proofs.Common.{map, drop}
use Rattle.protox_descriptor.specs.declared.tag.service.TheConstants.{METHOD}
use Rattle.protox_places.specs.Lines.{numbers_at}
use Rattle.protox_locate.specs.ServiceLocations.{method_locations}
use Rattle.protox_locate.specs.inner.Walk.{ToCome}
use Rattle.protox_locate.proofs.services.locate_methods.Given as goal

abbrev pub invariant-loop-method : goal.invariant-loop-method
invariant-loop-method l =
    ToCome l.initial.context l.context METHOD 0 l.next (map (method_locations (numbers_at l.lines)) l.methods) (map (method_locations (numbers_at l.lines)) (drop l.method-index l.methods))
