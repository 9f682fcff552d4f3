use Rattle.std.proofs.Common.{◌<◌, arith, length}
use Rattle.std.proofs.lemmas.List.Edits.{map_over_more}
use Rattle.protox_names.specs.Tree.{name_of_place}
use Rattle.protox_linked.specs.Linked.{linked_field}
use Rattle.protox_linked.proofs.lists.link_fields.Goals as goal

pub loop-field-preserved : goal.loop-field-preserved
loop-field-preserved g c =
    let linked = linked_field (g.N.Names.meaning c.args.names.now) (name_of_place (g.N.Names.name_of c.args.names.now) c.args.scope) in
    let below : c.loop-field.field-index < length c.deref_mut-field-items.result.now = omega arith in
    rw (c.in_ok-link_field.ensures, ← c.field-item.is)
    (map_over_more linked c.deref_mut-field-items.result.now c.loop-field.field-items c.loop-field.field-index c.field-item.result below c.loop-field.invariant c.field-item.is)
