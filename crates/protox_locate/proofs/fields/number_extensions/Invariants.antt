use Rattle.std.proofs.Common.{map, drop}
use Rattle.std.specs.Prelude.{Some}
use Rattle.protox_ast.specs.Steps.{of_field}
use Rattle.protox_places.specs.Lines.{numbers_at}
use Rattle.protox_locate.specs.FieldLocations.{OfField}
use Rattle.protox_locate.specs.Locations.{location_steps}
use Rattle.protox_locate.specs.inner.Walk.{ToCome}
use Rattle.protox_locate.proofs.fields.number_extensions.Given as goal

abbrev pub invariant-loop-field : goal.invariant-loop-field
invariant-loop-field l =
    ToCome l.initial.context l.context l.tag l.first l.next (map (λ (f : OfField). f.own (Some l.extendee)) (map (of_field (location_steps (numbers_at l.lines))) l.fields)) (map (λ (f : OfField). f.own (Some l.extendee)) (map (of_field (location_steps (numbers_at l.lines))) (drop l.field-index l.fields)))
