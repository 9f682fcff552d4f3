use Rattle.std.proofs.Common.{◌<◌, arith, length}
use Rattle.std.proofs.lemmas.List.Edits.{map_over_more}
use Rattle.protox_float_defaults.specs.Printed.{with_new_default}
use Rattle.protox_float_defaults.proofs.fields.print_fields.Goals as goal

pub loop-field-preserved : goal.loop-field-preserved
loop-field-preserved c =
    let below : c.loop-field.field-index < length c.deref_mut-field-items.result.now = omega arith in
    rw (c.in_ok-print_field.ensures, ← c.field-item.is)
    (map_over_more with_new_default c.deref_mut-field-items.result.now c.loop-field.field-items c.loop-field.field-index c.field-item.result below c.loop-field.invariant c.field-item.is)
