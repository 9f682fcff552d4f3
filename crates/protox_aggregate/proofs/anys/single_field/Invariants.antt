use Rattle.std.proofs.Common.{◌≡◌, drop, find}
use Rattle.protox_aggregate.specs.Anys.{is_single}
use Rattle.protox_aggregate.proofs.anys.single_field.Given as goal

-- no field so far is such a one
abbrev pub invariant-loop-field : goal.invariant-loop-field
invariant-loop-field l = find (is_single l.number l.field_type) (drop l.field-index l.fields) ≡ find (is_single l.number l.field_type) l.fields
