use Rattle.std.proofs.Common.{flat_map, take}
use Rattle.protox_ast.specs.Steps.{of_item}
use Rattle.protox_checks.specs.FieldFaults.{InExtend, InOneof}
use Rattle.protox_checks.specs.Nodes.{node_steps}
use Rattle.protox_checks.specs.inner.Walk.{AddsIn}
use Rattle.protox_checks.proofs.NodeLevels.{field_in}
use Rattle.protox_checks.proofs.messages.+messages.Given as goal

abbrev pub invariant-check_items-loop-item : goal.invariant-check_items-loop-item
invariant-check_items-loop-item l = AddsIn l.syntax l.initial.errors l.errors (flat_map (of_item node_steps) (take l.item-index l.item-items))

abbrev pub invariant-check_oneof_fields-loop-field : goal.invariant-check_oneof_fields-loop-field
invariant-check_oneof_fields-loop-field l = AddsIn l.syntax l.initial.errors l.errors (flat_map (field_in InOneof) (take l.field-index l.field-items))

abbrev pub invariant-check_extend-loop-field : goal.invariant-check_extend-loop-field
invariant-check_extend-loop-field l = AddsIn l.syntax l.initial.errors l.errors (flat_map (field_in InExtend) (take l.field-index l.field-items))
