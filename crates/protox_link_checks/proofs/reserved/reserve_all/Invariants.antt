use Rattle.std.proofs.Common.{◌≡◌, ◌++◌, ℕ, List, [], drop, take}
use Rattle.protox_link_checks.specs.Reserved.{again_faults, is_among}
use Rattle.protox_link_checks.specs.inner.Sets.{has}
use Rattle.protox_link_checks.proofs.reserved.reserve_all.Given as goal

abbrev pub invariant-loop-index : goal.invariant-loop-index
invariant-loop-index l =
    ((q : List ℕ) → has l.names q ≡ is_among (take l.index l.reserved) q)
    × (l.faults.items ++ again_faults l.place.file l.place.path.now (take l.index l.reserved) l.index (drop l.index l.reserved)
    ≡ l.initial.faults.items ++ again_faults l.place.file l.place.path.now [] 0 l.reserved)
