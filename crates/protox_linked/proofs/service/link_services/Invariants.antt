use Rattle.std.proofs.Common.{◌≡◌, ◌≤◌, ℕ, get_or, ◌++◌, drop, map, take}
use Rattle.protox_descriptor.specs.declared.descriptor.ServiceDescriptorProto.{ServiceDescriptorProto}
use Rattle.protox_names.specs.Tree.{name_of_place}
use Rattle.protox_linked.specs.Linked.{linked_service}
use Rattle.protox_linked.proofs.service.link_services.Given as goal

abbrev pub invariant-loop-service : goal.invariant-loop-service
invariant-loop-service g l =
    let linked = linked_service (g.N.Names.meaning l.names) (name_of_place (g.N.Names.name_of l.names) l.scope) in
    ((k : ℕ) (d : ServiceDescriptorProto) → l.service-index ≤ k → get_or l.service-items k d ≡ get_or l.initial.service-items k d)
    × (l.service-items ≡ map linked (take l.service-index l.initial.service-items) ++ drop l.service-index l.initial.service-items)
