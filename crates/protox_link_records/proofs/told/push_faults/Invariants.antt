use Rattle.std.proofs.Common.{List, ◌++◌, take}
use Rattle.protox_link_fault.specs.declared.LinkFault.{LinkFault}
use Rattle.protox_link_records.specs.LinkRecords.{AreTold}
use Rattle.protox_link_records.proofs.told.push_faults.Given as goal

abbrev pub invariant-loop-fault : goal.invariant-loop-fault
invariant-loop-fault l =
    (before : List LinkFault) → AreTold l.lines l.files before l.initial.out.items → AreTold l.lines l.files (before ++ take l.fault-index l.faults) l.out.items
