use Rattle.std.proofs.Common.{◌≡◌, length}
use Rattle.std.specs.List.Sorted.{IsStableBy}
use Rattle.protox_moved.specs.inner.Sorting.{comes_before}
use Rattle.protox_moved.proofs.straighten.straighten.Given as goal

abbrev pub invariant-loop-index : goal.invariant-loop-index
invariant-loop-index l =
    IsStableBy comes_before l.fn.locations l.locations × (length l.locations ≡ length l.fn.locations)
