use Rattle.std.proofs.Common.{◌≡◌, ◌++◌, take}
use Rattle.protox_link_checks.specs.Proto3.{alike_faults}
use Rattle.protox_link_checks.proofs.proto3.add_all_alike.Given as goal

abbrev pub invariant-loop-clash : goal.invariant-loop-clash
invariant-loop-clash l =
    l.faults.items ≡ l.initial.faults.items ++ alike_faults l.place.file l.place.path.now l.place.tag (take l.clash-index l.clashes)
