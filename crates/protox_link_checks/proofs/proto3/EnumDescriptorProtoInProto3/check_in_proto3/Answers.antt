use Rattle.protox_link_checks.proofs.InProto3.{enum_checked}
use Rattle.protox_link_checks.proofs.proto3.EnumDescriptorProtoInProto3.check_in_proto3.Goals as goal

pub returns : goal.returns
returns c full = enum_checked c.args.file c.check_enum.result c.args.self.now full c.args.path.now c.args.faults.now.items c.check_enum.new.faults.items c.check_enum.ensures
