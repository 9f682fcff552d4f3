use Rattle.std.proofs.Common.{map, flat_map, drop}
use Rattle.protox_ast.specs.declared.ast.Extensions.{Extensions}
use Rattle.protox_descriptor.specs.declared.tag.message.TheConstants.{EXTENSION_RANGE}
use Rattle.protox_places.specs.Lines.{numbers_at}
use Rattle.protox_locate.specs.LocationWords.{extension_range}
use Rattle.protox_locate.specs.inner.Walk.{ToCome}
use Rattle.protox_locate.proofs.ranges.number_extensions.Given as goal

abbrev pub invariant-loop-statement : goal.invariant-loop-statement
invariant-loop-statement l =
    ToCome l.initial.context l.context EXTENSION_RANGE 0 l.next (flat_map (λ (statement : Extensions). map (extension_range (numbers_at l.lines) statement) statement.ranges) l.statements) (flat_map (λ (statement : Extensions). map (extension_range (numbers_at l.lines) statement) statement.ranges) (drop l.statement-index l.statements))
