use Rattle.std.proofs.Common.{◌<◌, [], length, arith}
use Rattle.protox_ast.specs.Steps.{of_item}
use Rattle.protox_describe.specs.Descriptor.{descriptor_steps, enums_of}
use Rattle.protox_describe.proofs.Lists.{more-flat}
use Rattle.protox_describe.proofs.items.enums.Goals as goal

pub loop-item-preserved : goal.loop-item-preserved
loop-item-preserved c =
    let items = c.args.items.now in
    let i = c.loop-item.item-index in
    let x = c.item-item.result in
    let lt : i < length items = omega arith in
    λ syntax. more-flat enums_of (of_item (descriptor_steps syntax)) items i x [] _ _ lt c.item-item.is (c.loop-item.invariant syntax) (c.in_ok-push_item_enums.ensures syntax)
