use Rattle.std.proofs.Common.{◌≡◌, ◌++◌, drop}
use Rattle.protox_pool.proofs.pool.LocationPool.to_source_code_info.Given as goal

-- those so far, and then those that are left
abbrev pub invariant-loop-location : goal.invariant-loop-location
invariant-loop-location l = l.made ++ drop l.location-iterator.next l.location-iterator.pool.now ≡ l.self
