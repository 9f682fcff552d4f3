use Rattle.std.proofs.Common.{◌<◌, length, arith}
use Rattle.protox_ast.specs.Steps.{of_item}
use Rattle.protox_describe.specs.Descriptor.{descriptor_steps, is_oneof}
use Rattle.protox_describe.proofs.Lists.{count-take_more}
use Rattle.protox_describe.proofs.items.oneofs_among.Goals as goal

pub loop-item-preserved : goal.loop-item-preserved
loop-item-preserved c =
    let items = c.args.items.now in
    let i = c.loop-item.item-index in
    let x = c.item-item.result in
    let lt : i < length items = omega arith in
    record {
      value = λ syntax.
          let item = of_item (descriptor_steps syntax) in
          omega (arith, c.oneofs_in-oneofs.ensures.value syntax, c.loop-item.invariant.value syntax, count-take_more is_oneof item items i x lt c.item-item.is);
      within = omega (arith, c.oneofs_in-oneofs.ensures.one, c.loop-item.invariant.within);
    }
