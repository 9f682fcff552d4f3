use Rattle.std.proofs.Common.{◌<◌, arith, length}
use Rattle.std.proofs.lemmas.List.Edits.{map_over_more}
use Rattle.protox_names.specs.Tree.{name_of_place}
use Rattle.protox_linked.specs.Linked.{linked_method}
use Rattle.protox_linked.proofs.lists.link_methods.Goals as goal

pub loop-method-preserved : goal.loop-method-preserved
loop-method-preserved g c =
    let linked = linked_method (g.N.Names.meaning c.args.names.now) (name_of_place (g.N.Names.name_of c.args.names.now) c.args.scope) in
    let below : c.loop-method.method-index < length c.deref_mut-method-items.result.now = omega arith in
    rw (c.in_ok-link_method.ensures, ← c.method-item.is)
    (map_over_more linked c.deref_mut-method-items.result.now c.loop-method.method-items c.loop-method.method-index c.method-item.result below c.loop-method.invariant c.method-item.is)
