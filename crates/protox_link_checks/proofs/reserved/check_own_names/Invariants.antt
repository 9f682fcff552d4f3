use Rattle.std.proofs.Common.{◌≡◌, ◌++◌, drop, map}
use Rattle.protox_link_checks.specs.Reserved.{reserved_faults}
use Rattle.protox_link_checks.specs.inner.Sets.{has}
use Rattle.protox_link_checks.proofs.reserved.check_own_names.Given as goal

abbrev pub invariant-loop-index : goal.invariant-loop-index
invariant-loop-index g l =
    l.faults.items ++ reserved_faults l.place.file l.place.path.now l.place.tag (has l.names) l.index (map g.N.Named.own_name (drop l.index l.siblings))
    ≡ l.initial.faults.items ++ reserved_faults l.place.file l.place.path.now l.place.tag (has l.names) 0 (map g.N.Named.own_name l.siblings)
