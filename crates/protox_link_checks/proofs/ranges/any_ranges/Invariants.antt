use Rattle.std.proofs.Common.{All, take}
use Rattle.protox_descriptor.specs.declared.descriptor.FileDescriptorProto.{FileDescriptorProto}
use Rattle.protox_link_checks.specs.inner.Bare.{HasNoRanges}
use Rattle.protox_link_checks.proofs.ranges.any_ranges.Given as goal

abbrev pub invariant-loop-file : goal.invariant-loop-file
invariant-loop-file l = All (λ (file : FileDescriptorProto). All HasNoRanges file.message_type) (take l.file-index l.files)
