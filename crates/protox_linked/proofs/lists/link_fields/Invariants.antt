use Rattle.std.proofs.Common.{◌≡◌, ◌++◌, drop, map, take}
use Rattle.protox_names.specs.Tree.{name_of_place}
use Rattle.protox_linked.specs.Linked.{linked_field}
use Rattle.protox_linked.proofs.lists.link_fields.Given as goal

abbrev pub invariant-loop-field : goal.invariant-loop-field
invariant-loop-field g l =
    let linked = linked_field (g.N.Names.meaning l.names) (name_of_place (g.N.Names.name_of l.names) l.scope) in
    l.field-items ≡ map linked (take l.field-index l.initial.field-items) ++ drop l.field-index l.initial.field-items
