use Rattle.std.proofs.Common.{◌≡◌, ◌++◌, take}
use Rattle.protox_link_checks.specs.Numbers.{clash_faults}
use Rattle.protox_link_checks.proofs.numbers.add_clashes.Given as goal

abbrev pub invariant-loop-clash : goal.invariant-loop-clash
invariant-loop-clash l =
    l.faults.items ≡ l.initial.faults.items ++ clash_faults l.place.file l.place.path.now l.place.tag l.place.at.now l.place.how (take l.clash-index l.clashes)
