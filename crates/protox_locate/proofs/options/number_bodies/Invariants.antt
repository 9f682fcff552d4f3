use Rattle.std.proofs.Common.{map, drop}
use Rattle.protox_descriptor.specs.declared.tag.TheConstants.{UNINTERPRETED_OPTION}
use Rattle.protox_places.specs.Lines.{numbers_at}
use Rattle.protox_locate.specs.LocationWords.{option_body}
use Rattle.protox_locate.specs.inner.Walk.{ToCome}
use Rattle.protox_locate.proofs.options.number_bodies.Given as goal

abbrev pub invariant-loop-body : goal.invariant-loop-body
invariant-loop-body l =
    ToCome l.initial.context l.context UNINTERPRETED_OPTION 0 l.next (map (option_body (numbers_at l.lines)) l.bodies) (map (option_body (numbers_at l.lines)) (drop l.body-index l.bodies))
