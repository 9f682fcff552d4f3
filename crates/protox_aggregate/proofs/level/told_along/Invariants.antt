use Rattle.std.proofs.Common.{◌≡◌, drop, find}
use Rattle.protox_aggregate.specs.Levels.{is_in_oneof}
use Rattle.protox_aggregate.proofs.level.told_along.Given as goal

-- no field so far is of the oneof
abbrev pub invariant-loop-other : goal.invariant-loop-other
invariant-loop-other l = find (is_in_oneof l.index) (drop l.other-index l.told) ≡ find (is_in_oneof l.index) l.told
