use Rattle.std.proofs.Common.{List, ◌++◌, ap, append_assoc, ◌∙◌}
use Rattle.std.specs.List.{flat_map}
use Rattle.protox_option_checks.specs.Checks.{import_faults}
use Rattle.protox_option_checks.specs.declared.checker.Checker.{Checker}
use Rattle.protox_option_checks.specs.declared.fault.CheckFault.{CheckFault}
use Rattle.protox_option_checks.specs.inner.Added.{Adds}
use Rattle.protox_option_checks.proofs.Gathered.{adds_all, wrong_at}
use Rattle.protox_walk.specs.Declarations.{file_declarations}
use Rattle.protox_option_checks.proofs.files.check_file.Goals as goal

pub returns : goal.returns
returns c =
    let site = c.args.site.now in
    let declarations = file_declarations c.args.file.now in
    let start : Checker = record { site = c.args.site; faults = c.args.faults } in
    let walked : Adds start (flat_map (wrong_at site) declarations) c.walk.new.visitor = adds_all start c.walk.new.visitor declarations c.in_ok-walk.ensures in
    let imports : List CheckFault = import_faults site.marks.now.lite site.number c.args.imports.now in
    c.in_ok-check_imports.ensures
    ∙ ap (λ (l : List CheckFault). l ++ imports) walked.added
    ∙ append_assoc c.args.faults.items (flat_map (wrong_at site) declarations) imports
