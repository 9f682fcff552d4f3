use Rattle.std.proofs.Common.{refl}
use Rattle.std.specs.Option.{option_copied}
use Rattle.protox_walk.specs.Declarations.{declared, full_name}
use Rattle.protox_walk.specs.Parts.{Oneof}
use Rattle.protox_link_checks.proofs.Checking.{alone, name_read, nothing_used}
use Rattle.protox_link_checks.proofs.parts.OneofDescriptorProtoChecked.check.Goals as goal

pub returns : goal.returns
returns c full h =
    let view = c.args.of.now.view.now in
    let oneof = c.args.self.now in
    let checked = name_read view.symbols.now view.sees.now view.packages c.args.of.now.number c.args.path.now full (option_copied c.as_ref-name.result) oneof.name c.args.faults.now.items c.check_name.new.faults.items c.in_ok-check_name.field-0 _ c.as_ref-name.ensures.value refl (c.in_ok-check_name.ensures full h) in
    alone view.symbols.now view.sees.now view.packages c.args.of.now.number c.args.faults.now.items c.check_name.new.faults.items (declared c.args.path.now (full_name full oneof.name) (Oneof oneof))
    (nothing_used view.symbols.now view.sees.now view.packages c.args.of.now.number c.args.path.now full oneof.name c.args.faults.now.items c.check_name.new.faults.items c.in_ok-check_name.field-0 checked)
