use Rattle.std.proofs.Common.{◌≡◌, ◌++◌, slice_get, take}
use Rattle.std.specs.List.{flat_map}
use Rattle.protox_link_checks.specs.Extensions.{pair_faults}
use Rattle.protox_link_checks.proofs.extended.check_reused.Given as goal

abbrev pub invariant-loop-clash : goal.invariant-loop-clash
invariant-loop-clash l = l.faults.items ≡ l.initial.faults.items ++ flat_map (λ clash. pair_faults l.file (slice_get l.extensions clash.part) (slice_get l.extensions clash.«with»)) (take l.clash-index l.clash-items)
