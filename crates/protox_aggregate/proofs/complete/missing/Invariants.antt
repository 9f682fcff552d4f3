use Rattle.std.proofs.Common.{◌≡◌, drop}
use Rattle.protox_aggregate.specs.Complete.{missing}
use Rattle.protox_aggregate.proofs.complete.missing.Given as goal

-- no field so far is missing
abbrev pub invariant-loop-field : goal.invariant-loop-field
invariant-loop-field l = missing l.symbols l.message l.told (drop l.field-index l.fields) ≡ missing l.symbols l.message l.told l.fields
