use Rattle.std.proofs.Common.{◌<◌, length, arith}
use Rattle.protox_locate.proofs.Numbered.{some_more}
use Rattle.protox_locate.proofs.items.locate_enums.Goals as goal

pub loop-item-preserved : goal.loop-item-preserved
loop-item-preserved c =
    let lt : c.loop-item.item-index < length c.args.items.now = omega arith in
    some_more _ _ _ _ _ _ _ _ _ c.args.items.now _ _ _ c.loop-item.invariant c.in_ok-next.ensures.siblings c.item-item.is lt
