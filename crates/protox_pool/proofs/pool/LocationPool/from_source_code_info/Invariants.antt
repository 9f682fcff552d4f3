use Rattle.std.proofs.Common.{◌≡◌, take}
use Rattle.protox_pool.proofs.pool.LocationPool.from_source_code_info.Given as goal

-- those before the index are in the pool
abbrev pub invariant-loop-location : goal.invariant-loop-location
invariant-loop-location l = l.pool ≡ take l.location-index l.info.location
