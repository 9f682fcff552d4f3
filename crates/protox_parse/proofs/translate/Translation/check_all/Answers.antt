use Rattle.std.proofs.Common.{◌<◌, ◌++◌, List, arith, length, refl, subst, sym, take}
use Rattle.std.specs.List.{FoldsTo}
use Rattle.protox_ast.specs.declared.ast.FileItem.{FileItem}
use Rattle.protox_locate.proofs.Lemmas.{take_more}
use Rattle.protox_parse.specs.inner.Made.{TakesNext}
use Rattle.protox_parse.proofs.Making.{keeping, keeps_none, one_more_kept}
use Rattle.protox_parse.proofs.translate.Translation.check_all.Goals as goal

pub loop-item-init : goal.loop-item-init
loop-item-init c = keeps_none c.args.syntax c.args.self.now

pub loop-item-preserved : goal.loop-item-preserved
loop-item-preserved c =
    let lt : c.loop-item.item-index < length c.args.items.now = omega arith in
    let items = c.args.items.now in
    let index = c.loop-item.item-index in
    let new = record c.loop-item.self { faults = c.add_faults.new.faults } in
    let kept = c.args.self.now.kept in
    subst (λ (l : List FileItem). FoldsTo (TakesNext c.args.syntax) c.args.self.now l (keeping new (kept ++ l))) (sym (take_more items index _ lt c.item-item.is))
    (one_more_kept c.args.syntax _ c.loop-item.self new c.in_ok-add_faults.ensures refl c.args.self.now kept (take index items) c.loop-item.invariant)
