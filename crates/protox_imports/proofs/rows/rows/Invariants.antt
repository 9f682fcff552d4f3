use Rattle.std.proofs.Common.{◌≡◌, map, take}
use Rattle.protox_imports.specs.Rows.{row_by}
use Rattle.protox_imports.specs.inner.Numbers.{number_in}
use Rattle.protox_imports.proofs.rows.rows.Given as goal

abbrev pub invariant-loop-file : goal.invariant-loop-file
invariant-loop-file l = l.rows.items ≡ map (row_by (number_in l.numbers)) (take l.file-index l.files)
