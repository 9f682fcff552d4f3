use Rattle.std.proofs.Common.{map, drop}
use Rattle.protox_descriptor.specs.declared.tag.TheConstants.{UNINTERPRETED_OPTION}
use Rattle.protox_places.specs.Lines.{numbers_at}
use Rattle.protox_locate.specs.LocationWords.{option_statement}
use Rattle.protox_locate.specs.inner.Walk.{ToCome}
use Rattle.protox_locate.proofs.options.number_statements.Given as goal

abbrev pub invariant-loop-statement : goal.invariant-loop-statement
invariant-loop-statement l =
    ToCome l.initial.context l.context UNINTERPRETED_OPTION 0 l.next (map (option_statement (numbers_at l.lines)) l.statements) (map (option_statement (numbers_at l.lines)) (drop l.statement-index l.statements))
