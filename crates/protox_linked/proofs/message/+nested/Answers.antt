use Rattle.std.proofs.Common.{◌≡◌, ◌<◌, arith, length}
use Rattle.std.proofs.lemmas.Grind.{common_steps}
use Rattle.std.proofs.lemmas.List.Edits.{map_over_more}
use Rattle.protox_descriptor.specs.declared.descriptor.DescriptorProto.{out-roll-DescriptorProto, size_is-DescriptorProto}
use Rattle.protox_names.specs.Tree.{name_of_place}
use Rattle.protox_linked.specs.Linked.{linked_message}
use Rattle.protox_linked.proofs.Nesting.{name_of_message, nested-stand, parts-linked}
use Rattle.protox_linked.proofs.message.+nested.Goals as goal

pub link_message-link_messages-requires : goal.link_message-link_messages-requires
link_message-link_messages-requires g t c κs within =
    let scope = name_of_place (g.N.Names.name_of c.args.names.now) c.args.scope in
    let inside = g.N.Names.name_of c.args.names.now c.in-Some.inside in
    let is : inside ≡ name_of_message scope c.args.message.now = rw (← c.as_ref.ensures.value, ← c.text_of.ensures) c.in-Some.ensures in
    (omega (arith, size_is-DescriptorProto c.args.message.now), (within, nested-stand (g.N.Names.stands c.args.names.now) scope c.args.message.now inside is c.requires))

pub link_message-returns : goal.link_message-returns
link_message-returns g t c =
    let scope = name_of_place (g.N.Names.name_of c.args.names.now) c.args.scope in
    let inside = g.N.Names.name_of c.args.names.now c.in-Some.inside in
    let is : inside ≡ name_of_message scope c.args.message.now = rw (← c.as_ref.ensures.value, ← c.text_of.ensures) c.in-Some.ensures in
    simp out-roll-DescriptorProto
    (parts-linked (g.N.Names.meaning c.args.names.now) scope c.args.message.now c.link_fields-2.result inside c.link_fields.new.fields c.link_fields-2.new.fields c.link_messages.new.messages is
    c.in_ok-link_messages.ensures (simp out-roll-DescriptorProto at c.in_ok-link_fields.ensures) (simp out-roll-DescriptorProto at c.link_fields-2.ensures))

pub link_messages-loop-message-preserved : goal.link_messages-loop-message-preserved
link_messages-loop-message-preserved g t c =
    let linked = linked_message (g.N.Names.meaning c.args.names.now) (name_of_place (g.N.Names.name_of c.args.names.now) c.args.scope) in
    let below : c.loop-message.message-index < length c.deref_mut-message-items.result.now = omega arith in (
      (grind (arith, common_steps), grind (arith, common_steps)),
      rw (c.in_ok-link_message.ensures, ← c.message-item.is)
          (map_over_more linked c.deref_mut-message-items.result.now c.loop-message.message-items c.loop-message.message-index c.message-item.result below c.loop-message.invariant.1 c.message-item.is),
    )
