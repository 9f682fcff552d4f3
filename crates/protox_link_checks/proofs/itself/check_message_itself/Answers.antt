use Rattle.std.proofs.Common.{None, Some}
use Rattle.std.specs.Option.{option_copied}
use Rattle.protox_descriptor.specs.declared.descriptor.DescriptorProto.{out-DescriptorProto}
use Rattle.protox_link_checks.proofs.Checking.{name_read, rest_checked, two_told}
use Rattle.protox_link_checks.specs.Numbers.{message_number_faults}
use Rattle.protox_link_checks.specs.Reserved.{message_name_faults}
use Rattle.protox_link_checks.specs.Uses.{message_itself}
use Rattle.protox_link_checks.proofs.itself.check_message_itself.Goals as goal

pub returns-in_default : goal.returns-in_default
returns-in_default c full h =
    let view = c.args.of.now.view.now in
    let message = c.args.message.now in
    name_read view.symbols.now view.sees.now view.packages c.args.of.now.number c.args.path.now full (option_copied c.as_ref-name.result) (out-DescriptorProto message).name c.args.faults.now.items c.check_name.new.faults.items c.in_ok-check_name.field-0 None c.as_ref-name.ensures.value c.in_default.is (c.in_ok-check_name.ensures full h)
    (message_itself c.args.of.now.number c.args.path.now message)

pub returns : goal.returns
returns c full h =
    let view = c.args.of.now.view.now in
    let message = c.args.message.now in
    let of_numbers = message_number_faults c.args.of.now.number c.args.path.now message in
    let of_names = message_name_faults c.args.of.now.number c.args.path.now message in
    let start = c.check_name.new.faults.items in
    let end = c.check_message_names.new.faults.items in
    rest_checked view.symbols.now view.sees.now view.packages c.args.of.now.number c.check_message_names.result c.args.path.now full (out-DescriptorProto message).name c.in-Some.field-0 c.args.faults.now.items start end (message_itself c.args.of.now.number c.args.path.now message)
    (name_read view.symbols.now view.sees.now view.packages c.args.of.now.number c.args.path.now full (option_copied c.as_ref-name.result) (out-DescriptorProto message).name c.args.faults.now.items start c.in_ok-check_name.field-0 (Some c.in-Some.field-0) c.as_ref-name.ensures.value c.in-Some.is (c.in_ok-check_name.ensures full h))
    (two_told view.symbols.now view.sees.now view.packages c.args.of.now.number c.check_message_names.result start c.check_numbers.new.faults.items end of_numbers of_names c.in_ok-check_numbers.ensures c.check_message_names.ensures)
