use Rattle.std.proofs.Common.{map, flat_map, drop}
use Rattle.protox_ast.specs.Steps.{of_item}
use Rattle.protox_descriptor.specs.declared.tag.message.TheConstants.{FIELD}
use Rattle.protox_places.specs.Lines.{numbers_at}
use Rattle.protox_locate.specs.Locations.{OfItem, location_steps}
use Rattle.protox_locate.specs.inner.Walk.{ToCome}
use Rattle.protox_locate.proofs.items.locate_fields.Given as goal

abbrev pub invariant-loop-item : goal.invariant-loop-item
invariant-loop-item l =
    ToCome l.initial.context l.context FIELD 0 l.next (flat_map (λ (i : OfItem). i.fields) (map (of_item (location_steps (numbers_at l.lines))) l.items)) (flat_map (λ (i : OfItem). i.fields) (map (of_item (location_steps (numbers_at l.lines))) (drop l.item-index l.items)))
