use Rattle.std.proofs.Common.{map, drop}
use Rattle.protox_descriptor.specs.declared.tag.message.TheConstants.{EXTENSION_RANGE}
use Rattle.protox_places.specs.Lines.{numbers_at}
use Rattle.protox_locate.specs.LocationWords.{extensions_statement}
use Rattle.protox_locate.specs.inner.Walk.{ToAdd}
use Rattle.protox_locate.proofs.ranges.add_extensions.Given as goal

abbrev pub invariant-loop-statement : goal.invariant-loop-statement
invariant-loop-statement l =
    ToAdd l.initial.context l.context EXTENSION_RANGE (map (extensions_statement (numbers_at l.lines)) l.statements) (map (extensions_statement (numbers_at l.lines)) (drop l.statement-index l.statements))
