use Rattle.std.proofs.Common.{map, flat_map, drop}
use Rattle.protox_ast.specs.Steps.{of_field, of_item}
use Rattle.protox_descriptor.specs.declared.tag.message.TheConstants.{NESTED_TYPE}
use Rattle.protox_places.specs.Lines.{numbers_at}
use Rattle.protox_locate.specs.Locations.{OfItem, location_steps, messages_of}
use Rattle.protox_locate.specs.inner.Walk.{ToCome}
use Rattle.protox_locate.proofs.messages.+messages.Given as goal

abbrev pub invariant-locate_messages-loop-item : goal.invariant-locate_messages-loop-item
invariant-locate_messages-loop-item l =
    ToCome l.initial.context l.context NESTED_TYPE 0 l.next (flat_map (λ (i : OfItem). i.messages) (map (of_item (location_steps (numbers_at l.lines))) l.items)) (flat_map (λ (i : OfItem). i.messages) (map (of_item (location_steps (numbers_at l.lines))) (drop l.item-index l.items)))

abbrev pub invariant-messages_in-loop-field : goal.invariant-messages_in-loop-field
invariant-messages_in-loop-field l =
    ToCome l.initial.context l.context l.tag l.first l.next (messages_of (map (of_field (location_steps (numbers_at l.lines))) l.fields)) (messages_of (map (of_field (location_steps (numbers_at l.lines))) (drop l.field-index l.fields)))
