use Rattle.std.proofs.Common.{◌≡◌, ◌++◌, take}
use Rattle.protox_records.specs.Records.{records}
use Rattle.protox_records.proofs.push_records.Given as goal

abbrev pub invariant-loop-fault : goal.invariant-loop-fault
invariant-loop-fault l = l.out.items ≡ l.initial.out.items ++ records l.source (take l.fault-index l.faults)
