use Rattle.std.proofs.Common.{◌≡◌, ◌++◌, map, take}
use Rattle.std.specs.List.{flat_map}
use Rattle.protox_ast.specs.Steps.{of_field, of_item}
use Rattle.protox_describe.specs.Descriptor.{Gives, descriptor_steps, nested_of}
use Rattle.protox_describe.proofs.messages.+messages.Given as goal

abbrev pub invariant-nested-loop-item : goal.invariant-nested-loop-item
invariant-nested-loop-item l = l.found ≡ flat_map nested_of (map (of_item (descriptor_steps l.syntax)) (take l.item-index l.item-items))

abbrev pub invariant-push_oneof_messages-loop-part : goal.invariant-push_oneof_messages-loop-part
invariant-push_oneof_messages-loop-part l = l.found ≡ l.initial.found ++ flat_map (λ (gives : Gives). gives.nested) (map (of_field (descriptor_steps l.syntax)) (take l.part-index l.part-items))

abbrev pub invariant-push_extend_messages-loop-part : goal.invariant-push_extend_messages-loop-part
invariant-push_extend_messages-loop-part l = l.found ≡ l.initial.found ++ flat_map (λ (gives : Gives). gives.nested) (map (of_field (descriptor_steps l.syntax)) (take l.part-index l.part-items))
