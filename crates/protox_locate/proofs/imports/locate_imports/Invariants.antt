use Rattle.std.proofs.Common.{map, drop}
use Rattle.protox_descriptor.specs.declared.tag.file.TheConstants.{DEPENDENCY}
use Rattle.protox_places.specs.Lines.{numbers_at}
use Rattle.protox_locate.specs.Locations.{import_locations}
use Rattle.protox_locate.specs.inner.Walk.{ToCome}
use Rattle.protox_locate.proofs.imports.locate_imports.Given as goal

abbrev pub invariant-loop-statement : goal.invariant-loop-statement
invariant-loop-statement l =
    ToCome l.initial.context l.context DEPENDENCY 0 l.next (map (import_locations (numbers_at l.lines)) l.imports) (map (import_locations (numbers_at l.lines)) (drop l.statement-index l.imports))
