use Rattle.std.proofs.Common.{◌≡◌, ◌++◌, drop, map, take}
use Rattle.protox_names.specs.Tree.{name_of_place}
use Rattle.protox_linked.specs.Linked.{linked_message}
use Rattle.protox_linked.proofs.message.+nested.Given as goal

abbrev pub invariant-link_messages-loop-message : goal.invariant-link_messages-loop-message
invariant-link_messages-loop-message g l =
    goal.unvisited-link_messages-loop-message g l
    × (let linked = linked_message (g.N.Names.meaning l.names) (name_of_place (g.N.Names.name_of l.names) l.scope) in
    l.message-items ≡ map linked (take l.message-index l.initial.message-items) ++ drop l.message-index l.initial.message-items)
