use Rattle.std.proofs.Common.{List, ℕ, Option, Some, arith, ap, subst, sym, ◌∙◌, length}
use Rattle.std.specs.List.{Contains}
use Rattle.protox_imports.specs.Rows.{named_of}
use Rattle.protox_link_checks.specs.Ranges.{AreRangesOf}
use Rattle.protox_symbols.specs.Symbols.{Table}
use Rattle.std.proofs.lemmas.Result.{on_ok_weaker}
use Rattle.protox_views.specs.FilesOf.{seen_packages}
use Rattle.protox_link.proofs.Doing.{both_told, told_one, seen_in}
use Rattle.protox_link.proofs.checking.check_one.Goals as goal

pub check_file-requires : goal.check_file-requires
check_file-requires c n has =
    let below = c.args.known.now.imports.within c.args.number n (subst (λ (named : List (Option ℕ)). Contains named (Some n)) c.named-imports.ensures has) in
    omega (arith, below, c.in_ok-names.ensures.as_many, ap length c.view-view.ensures.sees)

pub returns : goal.returns
returns c all known ranges =
    let names = c.in_ok-names.names in
    let view = c.view-view.result in
    let of_file = c.in_ok-names.ensures.of_file all known in
    told_one c.check_extensions.result all view.symbols.now c.args.number view.sees.now view.packages c.named-imports.result.now c.args.file.now c.args.faults.now.items c.check_extensions.new.faults.items
    (c.view-view.ensures.table ∙ of_file.table)
    (seen_in all c.args.number names.sees (seen_packages names.sees names.packages.now) view.sees.now view.packages c.view-view.ensures.sees c.view-view.ensures.packages of_file.seen)
    (c.named-imports.ensures ∙ ap (λ rows. named_of rows c.args.number) known.rows)
    (on_ok_weaker c.check_extensions.result
    (both_told all view.symbols.now view.sees.now view.packages c.args.number c.named-imports.result.now c.args.file.now c.args.faults.now.items c.check_file.new.faults.items c.check_extensions.new.faults.items c.in_ok-check_file.ensures)
    (c.check_extensions.ensures all (subst (λ (t : Table). AreRangesOf all t c.args.ranges.now) (sym (c.view-view.ensures.table ∙ of_file.table)) ranges)))
