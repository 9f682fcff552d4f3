use Rattle.std.proofs.Common.{flat_map, drop}
use Rattle.protox_ast.specs.declared.ast.Import.{Import}
use Rattle.protox_descriptor.specs.declared.tag.file.TheConstants.{PUBLIC_DEPENDENCY}
use Rattle.protox_places.specs.Lines.{numbers_at}
use Rattle.protox_locate.specs.Locations.{public_words}
use Rattle.protox_locate.specs.inner.Walk.{ToCome}
use Rattle.protox_locate.proofs.imports.locate_public_words.Given as goal

abbrev pub invariant-loop-statement : goal.invariant-loop-statement
invariant-loop-statement l =
    ToCome l.initial.context l.context PUBLIC_DEPENDENCY 0 l.next (flat_map (λ (statement : Import). public_words (numbers_at l.lines) statement.kind) l.imports) (flat_map (λ (statement : Import). public_words (numbers_at l.lines) statement.kind) (drop l.statement-index l.imports))
