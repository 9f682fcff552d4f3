use Rattle.std.proofs.Common.{◌≡◌, [], sym, ◌∙◌}
use Rattle.std.proofs.lemmas.Result.{on_ok_weaker}
use Rattle.protox_link_checks.specs.File.{file_faults}
use Rattle.protox_link.proofs.Doing.{both_told}
use Rattle.protox_link.proofs.file.check_and_link.Goals.{then-not-is_whole-via-then-not-is_whole, then-not-is_whole-via-else-not-is_whole+then-not-is_empty}
use Rattle.protox_link.proofs.Standing.{in_table, no_items, none_of_first, none_of_second, some_items}
use Rattle.protox_link.proofs.file.check_and_link.Goals as goal

pub link_seen-requires : goal.link_seen-requires
link_seen-requires c =
    let view = c.args.view.now in
    let table = view.symbols.now in
    let file = c.args.file.now in
    let none : file_faults table view.sees.now view.packages c.args.number c.args.imports.now file ≡ [] =
    none_of_second c.args.faults.now.items _ (sym c.in_ok-check_file.ensures ∙ no_items c.check_file.new.faults.len c.check_file.new.faults.items c.if-not-is_whole.ensures c.check_file.new.faults.ok.0) in
    in_table table view.sees.now view.packages c.args.number c.args.imports.now file none

pub returns : goal.returns
returns c all h =
    let view = c.args.view.now in
    let file = c.args.file.now in
    on_ok_weaker c.link_seen.result
    (λ linked. record {
      faults = both_told all view.symbols.now view.sees.now view.packages c.args.number c.args.imports.now file c.args.faults.now.items c.check_file.new.faults.items c.check_extensions.new.faults.items c.in_ok-check_file.ensures (c.in_ok-check_extensions.ensures all h);
      linked = λ none. linked;
    })
    c.link_seen.ensures

pub returns-then-not-is_whole : goal.returns-then-not-is_whole
returns-then-not-is_whole c all h =
    let view = c.args.view.now in
    let file = c.args.file.now in
    let extension = c.in_ok-check_extensions.ensures all h in
    record {
      faults = both_told all view.symbols.now view.sees.now view.packages c.args.number c.args.imports.now file c.args.faults.now.items c.check_file.new.faults.items c.check_extensions.new.faults.items c.in_ok-check_file.ensures extension;
      linked = λ none. elim c.then-not-is_whole.branch [
        | then-not-is_whole-via-then-not-is_whole w ↦ absurd (some_items c.check_file.new.faults.len c.check_file.new.faults.items w.if-not-is_whole.ensures c.check_file.new.faults.ok.0 (none_of_first c.check_file.new.faults.items _ (sym extension ∙ none)))
        | then-not-is_whole-via-else-not-is_whole+then-not-is_empty w ↦ absurd (some_items c.check_extensions.new.faults.len c.check_extensions.new.faults.items w.if-not-is_empty.ensures c.check_extensions.new.faults.ok.0 none)
      ];
    }
