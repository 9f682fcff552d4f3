use Rattle.std.proofs.Common.{map, flat_map, drop}
use Rattle.protox_ast.specs.declared.ast.Reserved.{Reserved}
use Rattle.protox_ast.specs.Ranges.{kind_ranges}
use Rattle.protox_places.specs.Lines.{numbers_at}
use Rattle.protox_locate.specs.LocationWords.{range_locations}
use Rattle.protox_locate.specs.inner.Walk.{ToCome}
use Rattle.protox_locate.proofs.ranges.number_ranges.Given as goal

abbrev pub invariant-loop-statement : goal.invariant-loop-statement
invariant-loop-statement l =
    ToCome l.initial.context l.context l.tag 0 l.next (flat_map (λ (statement : Reserved). map (range_locations (numbers_at l.lines)) (kind_ranges statement.kind)) l.statements) (flat_map (λ (statement : Reserved). map (range_locations (numbers_at l.lines)) (kind_ranges statement.kind)) (drop l.statement-index l.statements))
