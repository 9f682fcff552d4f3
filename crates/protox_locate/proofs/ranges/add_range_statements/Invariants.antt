use Rattle.std.proofs.Common.{flat_map, drop}
use Rattle.protox_ast.specs.declared.ast.Reserved.{Reserved}
use Rattle.protox_places.specs.Lines.{numbers_at}
use Rattle.protox_locate.specs.LocationWords.{range_statement}
use Rattle.protox_locate.specs.inner.Walk.{ToAdd}
use Rattle.protox_locate.proofs.ranges.add_range_statements.Given as goal

abbrev pub invariant-loop-statement : goal.invariant-loop-statement
invariant-loop-statement l =
    ToAdd l.initial.context l.context l.tag (flat_map (λ (statement : Reserved). range_statement (numbers_at l.lines) statement statement.kind) l.statements) (flat_map (λ (statement : Reserved). range_statement (numbers_at l.lines) statement statement.kind) (drop l.statement-index l.statements))
