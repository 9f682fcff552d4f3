use Rattle.std.proofs.Common.{◌<◌, List, length, arith, subst, sym}
use Rattle.protox_ast.specs.declared.ast.FileItem.{FileItem}
use Rattle.protox_locate.specs.inner.Draft.{IsDraft}
use Rattle.protox_places.specs.Lines.{numbers_at}
use Rattle.protox_locate.proofs.Numbered.{take_more}
use Rattle.protox_locate.proofs.file.locate_items.Goals as goal

pub loop-item-preserved : goal.loop-item-preserved
loop-item-preserved c =
    let lt : c.loop-item.item-index < length c.args.items.now = omega arith in
    let items = c.args.items.now in
    let index = c.loop-item.item-index in
    λ first. subst (λ (l : List FileItem). IsDraft (numbers_at c.args.lines.now) l c.locate_item.new.draft) (sym (take_more items index _ lt c.item-item.is)) (c.in_ok-locate_item.ensures.located _ (c.loop-item.invariant first))
