use Rattle.std.proofs.Common.{◌≡◌, false, take}
use Rattle.std.specs.List.{list_any}
use Rattle.protox_ast.specs.Steps.{of_field, of_item}
use Rattle.protox_generate.specs.Repeats.{repeat_steps}
use Rattle.protox_generate.proofs.repeats.+repeats.Given as goal

abbrev pub invariant-in_items-loop-item : goal.invariant-in_items-loop-item
invariant-in_items-loop-item l = list_any (of_item repeat_steps) (take l.item-index l.item-items) ≡ false

abbrev pub invariant-in_oneof-loop-field : goal.invariant-in_oneof-loop-field
invariant-in_oneof-loop-field l = list_any (of_field repeat_steps) (take l.field-index l.field-items) ≡ false

abbrev pub invariant-in_extend_fields-loop-field : goal.invariant-in_extend_fields-loop-field
invariant-in_extend_fields-loop-field l = list_any (of_field repeat_steps) (take l.field-index l.field-items) ≡ false
