use Rattle.std.proofs.Common.{◌≡◌, ◌≤◌, map, take}
use Rattle.protox_ast.specs.declared.ast.Syntax.{Syntax}
use Rattle.protox_ast.specs.Steps.{of_item}
use Rattle.protox_describe.specs.Descriptor.{descriptor_steps, is_oneof}
use Rattle.protox_describe.specs.Siblings.{count}
use Rattle.protox_describe.proofs.items.oneofs_among.Given as goal

abbrev pub invariant-loop-item : goal.invariant-loop-item
invariant-loop-item l = record {
  value : (syntax : Syntax) → l.oneofs ≡ count is_oneof (map (of_item (descriptor_steps syntax)) (take l.item-index l.items));
  within : l.oneofs ≤ l.item-index;
}
