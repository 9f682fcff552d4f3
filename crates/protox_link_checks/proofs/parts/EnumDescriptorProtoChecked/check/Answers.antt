use Rattle.protox_descriptor.specs.declared.tag.enum_.TheConstants.{VALUE}
use Rattle.protox_walk.specs.Declarations.{all_in, declared, full_name, siblings_at, value_at}
use Rattle.protox_walk.specs.Parts.{Enum}
use Rattle.protox_link_checks.proofs.Checking.{first_checked}
use Rattle.protox_link_checks.proofs.parts.EnumDescriptorProtoChecked.check.Goals as goal

pub returns : goal.returns
returns c full h =
    let view = c.args.of.now.view.now in
    let enum = c.args.self.now in
    first_checked view.symbols.now view.sees.now view.packages c.args.of.now.number c.check_each.result c.args.faults.now.items c.check_enum_itself.new.faults.items c.check_each.new.faults.items (declared c.args.path.now (full_name full enum.name) (Enum enum))
    (siblings_at c.args.path.now VALUE (all_in value_at full enum.value))
    (c.in_ok-check_enum_itself.ensures full h)
    (c.check_each.ensures full h)
