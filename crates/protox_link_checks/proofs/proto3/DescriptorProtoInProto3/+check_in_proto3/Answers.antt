use Rattle.protox_descriptor.specs.declared.descriptor.DescriptorProto.{out-DescriptorProto}
use Rattle.protox_link_checks.proofs.InProto3.{message_checked}
use Rattle.protox_walk.specs.Declarations.{full_name}
use Rattle.protox_link_checks.proofs.proto3.DescriptorProtoInProto3.+check_in_proto3.Goals as goal

pub returns : goal.returns
returns t c full =
    let message = c.args.self.now in
    let before = c.args.faults.now.items in
    let name = full_name full (out-DescriptorProto message).name in
    message_checked c.args.file c.check_siblings-2.result message full c.args.path.now before c.check_message.new.faults.items c.check_siblings.new.faults.items c.check_siblings-2.new.faults.items
    c.in_ok-check_message.ensures
    (c.in_ok-check_siblings.ensures name)
    (c.check_siblings-2.ensures name)
