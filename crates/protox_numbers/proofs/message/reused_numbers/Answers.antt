use Rattle.std.proofs.Common.{◌∙◌, subst, sym}
use Rattle.protox_descriptor.specs.declared.descriptor.DescriptorProto.{out-DescriptorProto}
use Rattle.protox_numbers.proofs.None.{none_if_rising}
use Rattle.protox_numbers.proofs.Rising.{rising_spans}
use Rattle.protox_numbers.specs.Message.{field_spans}
use Rattle.protox_numbers.specs.Rising.{AreRising}
use Rattle.protox_numbers.proofs.message.reused_numbers.Goals as goal

pub returns-then-are_rising : goal.returns-then-are_rising
returns-then-are_rising c = c.new.ensures.items ∙ sym (none_if_rising (field_spans c.args.message.now) (rising_spans (out-DescriptorProto c.args.message.now).field (subst AreRising c.as_slice.ensures (c.are_rising.ensures c.if-are_rising.true))))
