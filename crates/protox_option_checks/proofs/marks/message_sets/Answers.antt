use Rattle.std.proofs.Common.{◌<◌, ◌++◌, ◌∷◌, [], Bool, Option, false, ap, arith, length, ◌∙◌}
use Rattle.std.specs.Option.{option_map_or}
use Rattle.protox_descriptor.specs.declared.descriptor.DescriptorProto.{DescriptorProto}
use Rattle.protox_option_checks.specs.Marks.{is_message_set}
use Rattle.protox_option_checks.proofs.Steps.{sets_more}
use Rattle.protox_option_checks.proofs.marks.message_sets.Goals as goal

pub loop-number-preserved : goal.loop-number-preserved
loop-number-preserved c =
    let below : c.loop-number.number < length c.args.symbols.now.things = omega arith in
    c.in_ok-push.ensures.items
    ∙ ap (λ (mark : Bool). c.loop-number.made.items ++ mark ∷ []) (c.is_any_set.ensures ∙ ap (λ (m : Option DescriptorProto). option_map_or is_message_set m false) c.message_numbered.ensures)
    ∙ sets_more c.args.files.now c.args.symbols.now c.loop-number.number c.loop-number.made.items below c.loop-number.invariant
