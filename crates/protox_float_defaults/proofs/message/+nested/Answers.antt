use Rattle.std.proofs.Common.{◌<◌, arith, length}
use Rattle.std.proofs.lemmas.Grind.{common_steps}
use Rattle.std.proofs.lemmas.List.Edits.{map_over_more}
use Rattle.protox_descriptor.specs.declared.descriptor.DescriptorProto.{out-roll-DescriptorProto}
use Rattle.protox_float_defaults.specs.Printed.{printed_message}
use Rattle.protox_float_defaults.proofs.Nesting.{parts-printed}
use Rattle.protox_float_defaults.proofs.message.+nested.Goals as goal

pub print_message-returns : goal.print_message-returns
print_message-returns t c =
    simp out-roll-DescriptorProto
    (parts-printed c.args.message.now c.print_fields-2.result c.print_fields.new.fields c.print_fields-2.new.fields c.print_messages.new.messages
    c.in_ok-print_messages.ensures (simp out-roll-DescriptorProto at c.in_ok-print_fields.ensures) (simp out-roll-DescriptorProto at c.print_fields-2.ensures))

pub print_messages-loop-message-preserved : goal.print_messages-loop-message-preserved
print_messages-loop-message-preserved t c =
    let below : c.loop-message.message-index < length c.deref_mut-message-items.result.now = omega arith in (
      (grind (arith, common_steps), grind (arith, common_steps)),
      rw (c.in_ok-print_message.ensures, ← c.message-item.is)
          (map_over_more printed_message c.deref_mut-message-items.result.now c.loop-message.message-items c.loop-message.message-index c.message-item.result below c.loop-message.invariant.1 c.message-item.is),
    )
