use Rattle.std.proofs.Common.{List, ap, sym, subst, ◌∙◌}
use Rattle.protox_ast.specs.declared.ast.FileItem.{FileItem}
use Rattle.protox_generate.specs.File.{AreLocated, AreSorted, file_descriptor}
use Rattle.protox_locate.proofs.Lemmas.{in-order}
use Rattle.protox_places.proofs.Lemmas.{sorted-by-path}
use Rattle.protox_places.specs.Order.{StartsBefore}
use Rattle.protox_locate.specs.Locations.{file_locations}
use Rattle.protox_places.specs.Lines.{span_numbers}
use Rattle.protox_generate.proofs.generate.described.Goals as goal

pub returns-clause-found : goal.returns-clause-found
returns-clause-found c =
    let source = c.args.source.now in
    let taken = c.in_ok-take_items.ensures source (c.new-draft.ensures.taken c.args.ast.syntax) in
    let whole = λ (items : List FileItem). file_descriptor c.args.name.now source (record c.args.ast { items = items }) in
    c.in_ok-file.ensures source _ taken ∙ ap whole c.replace-items.ensures.value

pub returns-clause-located : goal.returns-clause-located
unfolding file_descriptor
returns-clause-located c = subst AreLocated (sym (returns-clause-found c)) (in-order c.args.source.now _ c.args.ast c.requires.stands)

pub returns-clause-sorted : goal.returns-clause-sorted
unfolding file_descriptor
returns-clause-sorted c = subst AreSorted (sym (returns-clause-found c)) (sorted-by-path StartsBefore (file_locations (span_numbers c.args.source.now) c.args.ast) (in-order c.args.source.now _ c.args.ast c.requires.stands))
