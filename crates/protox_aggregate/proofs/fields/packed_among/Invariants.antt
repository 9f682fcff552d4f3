use Rattle.std.proofs.Common.{◌≡◌, drop}
use Rattle.protox_aggregate.specs.Fields.{packed_among}
use Rattle.protox_aggregate.proofs.fields.packed_among.Given as goal

-- no statement so far sets it
abbrev pub invariant-loop-statement : goal.invariant-loop-statement
invariant-loop-statement l = packed_among (drop l.statement-index l.statements) ≡ packed_among l.statements
