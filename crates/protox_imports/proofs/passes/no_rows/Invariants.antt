use Rattle.std.proofs.Common.{◌≡◌, None, replicate}
use Rattle.protox_imports.proofs.passes.no_rows.Given as goal

abbrev pub invariant-loop : goal.invariant-loop
invariant-loop l = l.rows.items ≡ replicate l.counter None
