use Rattle.std.proofs.Common.{ap, subst, sym, ◌∙◌}
use Rattle.std.proofs.lemmas.Result.{on_ok_weaker}
use Rattle.protox_link.proofs.Doing.{seen_in}
use Rattle.protox_link.specs.Files.{IsInTable}
use Rattle.protox_linked.specs.Linked.{linked_file}
use Rattle.protox_symbols.specs.Symbols.{Table}
use Rattle.protox_views.specs.FilesOf.{seen_packages}
use Rattle.protox_views.specs.Views.{meaning}
use Rattle.protox_link.proofs.file.link_numbered.Goals as goal

pub link_seen-requires : goal.link_seen-requires
link_seen-requires c =
    subst (λ (t : Table). IsInTable t c.args.file.now) (sym (c.view-view.ensures.table ∙ c.in_ok-names.ensures.table)) c.requires.in_table

pub returns : goal.returns
returns c all known =
    let names = c.in_ok-names.names in
    let view = c.view-view.result in
    let of_file = c.in_ok-names.ensures.of_file all known in
    on_ok_weaker c.link_seen.result
    (λ linked. record {
      sees = view.sees.now;
      packages = view.packages;
      seen = seen_in all c.args.number names.sees (seen_packages names.sees names.packages.now) view.sees.now view.packages c.view-view.ensures.sees c.view-view.ensures.packages of_file.seen;
      linked = linked ∙ ap (λ (t : Table). linked_file (meaning t view.sees.now view.packages) c.args.file.now) (c.view-view.ensures.table ∙ of_file.table);
    })
    c.link_seen.ensures
