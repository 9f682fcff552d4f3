use Rattle.std.proofs.Common.{map, flat_map, drop}
use Rattle.protox_ast.specs.declared.ast.Reserved.{Reserved}
use Rattle.protox_ast.specs.Ranges.{kind_names}
use Rattle.protox_places.specs.Lines.{numbers_at}
use Rattle.protox_locate.specs.LocationWords.{reserved_name}
use Rattle.protox_locate.specs.inner.Walk.{ToCome}
use Rattle.protox_locate.proofs.ranges.number_names.Given as goal

abbrev pub invariant-loop-statement : goal.invariant-loop-statement
invariant-loop-statement l =
    ToCome l.initial.context l.context l.tag 0 l.next (flat_map (λ (statement : Reserved). map (reserved_name (numbers_at l.lines)) (kind_names statement.kind)) l.statements) (flat_map (λ (statement : Reserved). map (reserved_name (numbers_at l.lines)) (kind_names statement.kind)) (drop l.statement-index l.statements))
