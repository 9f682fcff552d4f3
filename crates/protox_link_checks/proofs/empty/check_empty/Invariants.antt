use Rattle.std.proofs.Common.{◌≡◌, ◌++◌, drop}
use Rattle.protox_link_checks.specs.Empty.{empty_faults}
use Rattle.protox_link_checks.proofs.empty.check_empty.Given as goal

abbrev pub invariant-loop-index : goal.invariant-loop-index
invariant-loop-index g l =
    l.faults.items ++ empty_faults l.place.file l.place.path.now l.place.tag g.R.MayBeEmpty.is_empty_range l.index (drop l.index l.ranges)
    ≡ l.initial.faults.items ++ empty_faults l.place.file l.place.path.now l.place.tag g.R.MayBeEmpty.is_empty_range 0 l.ranges
