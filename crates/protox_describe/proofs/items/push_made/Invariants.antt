use Rattle.std.proofs.Common.{◌≡◌, ◌++◌, map, take}
use Rattle.std.specs.List.{flat_map}
use Rattle.protox_ast.specs.Steps.{of_item}
use Rattle.protox_describe.specs.Descriptor.{descriptor_steps, synthetic_of}
use Rattle.protox_describe.proofs.items.push_made.Given as goal

abbrev pub invariant-loop-item : goal.invariant-loop-item
invariant-loop-item l = l.found ≡ l.initial.found ++ flat_map synthetic_of (map (of_item (descriptor_steps l.syntax)) (take l.item-index l.items))
