use Rattle.std.proofs.Common.{map, flat_map, drop}
use Rattle.protox_ast.specs.Steps.{of_item}
use Rattle.protox_descriptor.specs.declared.tag.message.TheConstants.{EXTENSION}
use Rattle.protox_places.specs.Lines.{numbers_at}
use Rattle.protox_locate.specs.Locations.{OfItem, location_steps}
use Rattle.protox_locate.specs.inner.Walk.{ToAdd}
use Rattle.protox_locate.proofs.items.locate_blocks.Given as goal

abbrev pub invariant-loop-item : goal.invariant-loop-item
invariant-loop-item l =
    ToAdd l.initial.context l.context EXTENSION (flat_map (λ (i : OfItem). i.blocks) (map (of_item (location_steps (numbers_at l.lines))) l.items)) (flat_map (λ (i : OfItem). i.blocks) (map (of_item (location_steps (numbers_at l.lines))) (drop l.item-index l.items)))
