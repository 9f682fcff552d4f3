use Rattle.std.proofs.Common.{◌≡◌, ◌++◌, map, take, drop}
use Rattle.protox_pool.specs.inner.Ends.{moved}
use Rattle.protox_pool.proofs.joined.move_ends.Given as goal

-- the ends before the index are moved
abbrev pub invariant-loop-index : goal.invariant-loop-index
invariant-loop-index l = l.ends ≡ map (moved l.numbers l.comments) (take l.index l.fn.ends) ++ drop l.index l.fn.ends
