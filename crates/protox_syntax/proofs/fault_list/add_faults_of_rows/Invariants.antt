use Rattle.std.proofs.Common.{◌≡◌, ◌++◌}
use Rattle.protox_syntax.specs.inner.Merge.{faults_of_rows}
use Rattle.protox_syntax.proofs.fault_list.add_faults_of_rows.Given as goal

abbrev pub invariant-loop-k : goal.invariant-loop-k
invariant-loop-k l = l.errors.items ≡ l.fn.errors.items ++ faults_of_rows l.text_format l.table.faults l.low l.k
