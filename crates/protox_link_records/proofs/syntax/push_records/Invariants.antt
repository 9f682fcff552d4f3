use Rattle.std.proofs.Common.{◌≡◌, ◌++◌, take}
use Rattle.protox_link_records.specs.LinkRecords.{syntax_records}
use Rattle.protox_link_records.proofs.syntax.push_records.Given as goal

abbrev pub invariant-loop-fault : goal.invariant-loop-fault
invariant-loop-fault l = l.out.items ≡ l.initial.out.items ++ syntax_records l.file l.source (take l.fault-index l.faults)
