use Rattle.std.proofs.Common.{flat_map, drop}
use Rattle.protox_ast.specs.declared.ast.Import.{Import}
use Rattle.protox_descriptor.specs.declared.tag.file.TheConstants.{WEAK_DEPENDENCY}
use Rattle.protox_places.specs.Lines.{numbers_at}
use Rattle.protox_locate.specs.Locations.{weak_words}
use Rattle.protox_locate.specs.inner.Walk.{ToCome}
use Rattle.protox_locate.proofs.imports.locate_weak_words.Given as goal

abbrev pub invariant-loop-statement : goal.invariant-loop-statement
invariant-loop-statement l =
    ToCome l.initial.context l.context WEAK_DEPENDENCY 0 l.next (flat_map (λ (statement : Import). weak_words (numbers_at l.lines) statement.kind) l.imports) (flat_map (λ (statement : Import). weak_words (numbers_at l.lines) statement.kind) (drop l.statement-index l.imports))
