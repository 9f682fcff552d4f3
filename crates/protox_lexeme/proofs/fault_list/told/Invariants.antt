use Rattle.std.proofs.Common.{◌≡◌, take}
use Rattle.protox_fault.specs.Faults.{faults_in}
use Rattle.protox_lexeme.proofs.fault_list.told.Given as goal

abbrev pub invariant-faults : goal.invariant-faults
invariant-faults l = l.told.items ≡ faults_in l.text_format (take l.fault-index l.faults)
