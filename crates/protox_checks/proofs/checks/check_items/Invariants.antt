use Rattle.std.proofs.Common.{flat_map, take}
use Rattle.protox_checks.specs.Nodes.{item_nodes}
use Rattle.protox_checks.specs.inner.Walk.{AddsIn}
use Rattle.protox_checks.proofs.checks.check_items.Given as goal

abbrev pub invariant-loop-item : goal.invariant-loop-item
invariant-loop-item l = AddsIn l.syntax l.initial.errors l.errors (flat_map item_nodes (take l.item-index l.items))
