use Rattle.std.proofs.Common.{◌<◌, arith, length}
use Rattle.std.proofs.lemmas.Grind.{common_steps}
use Rattle.std.proofs.lemmas.List.Edits.{map_over_more}
use Rattle.protox_names.specs.Tree.{name_of_place}
use Rattle.protox_linked.specs.Linked.{linked_service}
use Rattle.protox_linked.proofs.service.link_services.Goals as goal

pub loop-service-preserved : goal.loop-service-preserved
loop-service-preserved g c =
    let linked = linked_service (g.N.Names.meaning c.args.names.now) (name_of_place (g.N.Names.name_of c.args.names.now) c.args.scope) in
    let below : c.loop-service.service-index < length c.deref_mut-service-items.result.now = omega arith in (
      grind (arith, common_steps),
      rw (c.in_ok-link_service.ensures, ← c.service-item.is)
          (map_over_more linked c.deref_mut-service-items.result.now c.loop-service.service-items c.loop-service.service-index c.service-item.result below c.loop-service.invariant.1 c.service-item.is),
    )
