use Rattle.std.proofs.Common.{List, ℕ, Option, refl, subst}
use Rattle.std.specs.Option.{option_copied}
use Rattle.protox_descriptor.specs.declared.tag.service.TheConstants.{METHOD}
use Rattle.protox_symbols.specs.Scopes.{IsFoundScope}
use Rattle.protox_walk.specs.Declarations.{all_in, declared, full_name, method_at, siblings_at}
use Rattle.protox_walk.specs.Parts.{Service}
use Rattle.protox_link_checks.proofs.Checking.{first_checked, name_read, nothing_used}
use Rattle.protox_link_checks.proofs.parts.ServiceDescriptorProtoChecked.check.Goals as goal

pub returns : goal.returns
returns c full h =
    let view = c.args.of.now.view.now in
    let service = c.args.self.now in
    let name = full_name full service.name in
    let checked = name_read view.symbols.now view.sees.now view.packages c.args.of.now.number c.args.path.now full (option_copied c.as_ref-name.result) service.name c.args.faults.now.items c.check_name.new.faults.items c.in_ok-check_name.field-0 _ c.as_ref-name.ensures.value refl (c.in_ok-check_name.ensures full h) in
    let inner = subst (λ (read : Option (List ℕ)). IsFoundScope view.symbols.now (full_name full read) c.inside-inner.result) c.as_ref-name.ensures.value (c.inside-inner.ensures full h) in
    first_checked view.symbols.now view.sees.now view.packages c.args.of.now.number c.check_each.result c.args.faults.now.items c.check_name.new.faults.items c.check_each.new.faults.items (declared c.args.path.now name (Service service))
    (siblings_at c.args.path.now METHOD (all_in method_at name service.method))
    (nothing_used view.symbols.now view.sees.now view.packages c.args.of.now.number c.args.path.now full service.name c.args.faults.now.items c.check_name.new.faults.items c.in_ok-check_name.field-0 checked)
    (c.check_each.ensures name inner)
