use Rattle.std.proofs.Common.{◌≡◌, map, take}
use Rattle.protox_imports.specs.inner.Numbers.{number_in}
use Rattle.protox_imports.proofs.rows.named.Given as goal

abbrev pub invariant-loop-name : goal.invariant-loop-name
invariant-loop-name l = l.named.items ≡ map (number_in l.numbers) (take l.name-index l.dependency)
