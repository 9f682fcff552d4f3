use Rattle.std.proofs.Common.{◌≡◌, ◌++◌, drop, map, take}
use Rattle.protox_names.specs.Tree.{name_of_place}
use Rattle.protox_linked.specs.Linked.{linked_method}
use Rattle.protox_linked.proofs.lists.link_methods.Given as goal

abbrev pub invariant-loop-method : goal.invariant-loop-method
invariant-loop-method g l =
    let linked = linked_method (g.N.Names.meaning l.names) (name_of_place (g.N.Names.name_of l.names) l.scope) in
    l.method-items ≡ map linked (take l.method-index l.initial.method-items) ++ drop l.method-index l.initial.method-items
