use Rattle.std.proofs.Common.{◌++◌, [], ap, sym, ◌∙◌}
use Rattle.protox_descriptor.specs.declared.tag.file.TheConstants.{PACKAGE}
use Rattle.protox_link_checks.proofs.Outwards.{package_found}
use Rattle.protox_link_checks.specs.Uses.{faults_at}
use Rattle.protox_link_checks.proofs.package.check_package.Goals as goal

pub returns : goal.returns
returns c =
    package_found c.check_outwards.result c.args.symbols.now c.len-count.ensures.tree c.args.file c.args.name.now c.find.result c.in-Some.number c.args.faults.now.items c.add_if_any.new.faults.items c.check_outwards.new.faults.items
    (sym c.is_empty.ensures ∙ c.if-is_empty.false) c.find.ensures c.in-Some.is
    (c.in_ok-add_if_any.ensures ∙ ap (λ kinds. c.args.faults.now.items ++ faults_at c.args.file [] PACKAGE kinds) c.wrong_length.ensures)
    c.check_outwards.ensures
