use Rattle.std.proofs.Common.{List, ap, sym, subst, ◌∙◌}
use Rattle.protox_ast.specs.declared.ast.FileItem.{FileItem}
use Rattle.protox_places.specs.Lines.{numbers_at}
use Rattle.protox_locate.specs.Locations.{file_locations}
use Rattle.protox_locate.specs.inner.Draft.{IsDraft}
use Rattle.protox_places.specs.Order.{InOrder, StartsBefore}
use Rattle.protox_locate.proofs.InOrder.{in-order}
use Rattle.protox_places.proofs.Lemmas.{numbers-are, sorted-by-path}
use Rattle.protox_locate.proofs.file.locate_file.Goals as goal

pub returns-clause-located : goal.returns-clause-located
returns-clause-located c =
    let lines = c.in_ok-lines.lines in
    let n = numbers_at lines in
    let file = c.args.ast.now in
    let all = subst (λ (l : List FileItem). IsDraft n l c.locate_items.new.draft) c.as_slice.ensures (c.in_ok-locate_items.ensures (c.in_ok-draft.ensures.located n)) in
    c.in_ok-info.ensures n file all c.in_ok-front.ensures c.in_ok-end.ensures
    ∙ ap (λ m. file_locations m file) (numbers-are c.args.source.now lines c.in_ok-lines.ensures)

pub returns-clause-in_order : goal.returns-clause-in_order
returns-clause-in_order c stands = subst (InOrder StartsBefore) (sym (returns-clause-located c)) (in-order c.args.source.now _ c.args.ast.now stands)

pub returns-clause-by_path : goal.returns-clause-by_path
returns-clause-by_path c stands = sorted-by-path StartsBefore _ (returns-clause-in_order c stands)
