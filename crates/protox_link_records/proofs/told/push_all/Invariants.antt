use Rattle.std.proofs.Common.{◌≤◌, ◌-◌, [], length, take}
use Rattle.protox_link_records.specs.LinkRecords.{AreTold}
use Rattle.protox_link_records.proofs.told.push_all.Given as goal

abbrev pub invariant-loop-at : goal.invariant-loop-at
invariant-loop-at l =
    (AreTold l.lines l.files [] l.initial.out.items → AreTold l.lines l.files (take l.at l.faults) l.out.items) × (l.at ≤ length l.faults)

abbrev pub decreases-loop-at : goal.decreases-loop-at
decreases-loop-at l = length l.faults - l.at
