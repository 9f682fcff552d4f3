use Rattle.std.proofs.Common.{◌≡◌, ◌++◌, drop}
use Rattle.protox_aggregate.specs.Complete.{zeros}
use Rattle.protox_aggregate.proofs.complete.say_zeros.Given as goal

-- what was said, and what the fields that are left have, is what all have
abbrev pub invariant-loop-field : goal.invariant-loop-field
invariant-loop-field l =
    l.entries.items ++ zeros l.symbols l.level.message l.level.told (drop l.field-index l.fields)
    ≡ l.fn.entries.items ++ zeros l.symbols l.level.message l.level.told l.fields
