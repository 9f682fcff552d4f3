use Rattle.std.proofs.Common.{map, drop}
use Rattle.protox_places.specs.Lines.{numbers_at}
use Rattle.protox_locate.specs.LocationWords.{option_place}
use Rattle.protox_locate.specs.inner.Walk.{ToAdd}
use Rattle.protox_locate.proofs.options.add_statements.Given as goal

abbrev pub invariant-loop-statement : goal.invariant-loop-statement
invariant-loop-statement l =
    ToAdd l.initial.context l.context l.tag (map (option_place (numbers_at l.lines)) l.statements) (map (option_place (numbers_at l.lines)) (drop l.statement-index l.statements))
