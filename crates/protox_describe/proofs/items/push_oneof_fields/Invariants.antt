use Rattle.std.proofs.Common.{◌≡◌, ◌++◌, map, take}
use Rattle.protox_ast.specs.Steps.{of_field}
use Rattle.protox_describe.specs.Descriptor.{descriptor_steps, in_oneof}
use Rattle.protox_describe.proofs.items.push_oneof_fields.Given as goal

abbrev pub invariant-loop-part : goal.invariant-loop-part
invariant-loop-part l = l.found ≡ l.initial.found ++ map (in_oneof l.oneof_index) (map (of_field (descriptor_steps l.syntax)) (take l.part-index l.part-items))
