use Rattle.std.proofs.Common.{List, ℕ, Option, subst}
use Rattle.protox_descriptor.specs.declared.descriptor.DescriptorProto.{out-DescriptorProto}
use Rattle.protox_symbols.specs.Scopes.{IsFoundScope}
use Rattle.protox_walk.specs.Declarations.{full_name}
use Rattle.protox_link_checks.proofs.Checking.{message_checked}
use Rattle.protox_link_checks.proofs.parts.DescriptorProtoChecked.+check.Goals as goal

pub returns : goal.returns
returns t c full h =
    let view = c.args.of.now.view.now in
    let message = c.args.self.now in
    let name = full_name full (out-DescriptorProto message).name in
    let inner = subst (λ (read : Option (List ℕ)). IsFoundScope view.symbols.now (full_name full read) c.inside-inner.result) c.as_ref.ensures.value (c.inside-inner.ensures full h) in
    message_checked view.symbols.now view.sees.now view.packages c.args.of.now.number c.check_each-5.result message full c.args.path.now c.args.faults.now.items c.check_message_itself.new.faults.items c.check_each.new.faults.items c.check_each-2.new.faults.items c.check_each-3.new.faults.items c.check_each-4.new.faults.items c.check_each-5.new.faults.items
    (c.in_ok-check_message_itself.ensures full h)
    (c.in_ok-check_each.ensures name inner)
    (c.in_ok-check_each-2.ensures name inner)
    (c.in_ok-check_each-3.ensures name inner)
    (c.in_ok-check_each-4.ensures name inner)
    (c.check_each-5.ensures name inner)
