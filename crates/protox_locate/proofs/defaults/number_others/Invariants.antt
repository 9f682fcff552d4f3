use Rattle.std.proofs.Common.{map, drop, false}
use Rattle.protox_descriptor.specs.declared.tag.TheConstants.{UNINTERPRETED_OPTION}
use Rattle.protox_places.specs.Lines.{numbers_at}
use Rattle.protox_locate.specs.LocationWords.{option_body}
use Rattle.protox_locate.specs.inner.Walk.{ToCome, left}
use Rattle.protox_locate.proofs.defaults.number_others.Given as goal

abbrev pub invariant-loop-body : goal.invariant-loop-body
invariant-loop-body l =
    let at = option_body (numbers_at l.lines) in
    ToCome l.initial.context l.context UNINTERPRETED_OPTION 0 l.next (map at (left false false l.bodies)) (map at (left l.default l.json_name (drop l.body-index l.bodies)))
