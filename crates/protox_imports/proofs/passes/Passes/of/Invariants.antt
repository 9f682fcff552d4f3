use Rattle.protox_imports.proofs.Passing.{AreMade}
use Rattle.protox_imports.proofs.passes.Passes.of.Given as goal

abbrev pub invariant-loop-file : goal.invariant-loop-file
invariant-loop-file l = AreMade l.imports.files l.order l.file-index l.rows.items
