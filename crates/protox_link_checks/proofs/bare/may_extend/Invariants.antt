use Rattle.std.proofs.Common.{◌≡◌, All, None, take}
use Rattle.protox_link_checks.proofs.bare.may_extend.Given as goal

abbrev pub invariant-loop-field : goal.invariant-loop-field
invariant-loop-field l = All (λ field. field.extendee ≡ None) (take l.field-index l.fields)
