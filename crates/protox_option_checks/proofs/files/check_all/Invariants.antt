use Rattle.std.proofs.Common.{◌≡◌, ◌++◌, drop}
use Rattle.protox_option_checks.specs.Checks.{faults_from}
use Rattle.protox_option_checks.proofs.files.check_all.Given as goal

-- The faults of the files that are left complete those of all.
abbrev pub invariant-loop-number : goal.invariant-loop-number
invariant-loop-number l =
    l.faults.items ++ faults_from l.files l.symbols l.marks l.rows l.number (drop l.number l.files)
    ≡ faults_from l.files l.symbols l.marks l.rows 0 l.files
