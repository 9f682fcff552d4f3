use Rattle.std.proofs.Common.{◌≡◌, take}
use Rattle.protox_option_records.specs.CheckRecords.{check_records}
use Rattle.protox_option_records.proofs.checks.check_records.Given as goal

abbrev pub invariant-loop-fault : goal.invariant-loop-fault
invariant-loop-fault l = l.out.items ≡ check_records l.lines.items l.files l.symbols (take l.fault-index l.faults)
