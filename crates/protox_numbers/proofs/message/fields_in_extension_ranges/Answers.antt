use Rattle.std.proofs.Common.{◌∙◌, sym}
use Rattle.protox_descriptor.specs.declared.descriptor.DescriptorProto.{out-DescriptorProto}
use Rattle.protox_numbers.proofs.None.{none_if_empty}
use Rattle.protox_numbers.specs.Numbers.{of_extension_range}
use Rattle.protox_numbers.specs.Message.{field_spans}
use Rattle.protox_numbers.proofs.message.fields_in_extension_ranges.Goals as goal

pub returns-then-is_empty : goal.returns-then-is_empty
returns-then-is_empty c =
    c.new.ensures.items ∙ sym (none_if_empty of_extension_range (out-DescriptorProto c.args.message.now).extension_range (field_spans c.args.message.now) c.is_empty.result c.is_empty.ensures c.if-is_empty.true)
