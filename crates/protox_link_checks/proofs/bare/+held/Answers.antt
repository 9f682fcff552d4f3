use Rattle.std.proofs.Common.{◌≡◌, ◌∙◌, ◌++◌, ◌∷◌, ◌≤◌, [], All, None, ap, arith, length, subst, sym, take}
use Rattle.std.proofs.lemmas.List.{take_all, take_more}
use Rattle.std.proofs.lemmas.List.Elements.{All-push}
use Rattle.protox_descriptor.specs.FieldDescriptorProto.{FieldDescriptorProto}
use Rattle.protox_link_checks.proofs.Without.{extends_nothing}
use Rattle.protox_link_checks.specs.inner.Bare.{ExtendsNothing}
use Rattle.protox_link_checks.proofs.bare.+held.Goals as goal

pub loop-message-preserved : goal.loop-message-preserved
loop-message-preserved n c =
    let all = c.args.messages.now in
    let i = c.loop-message.message-index in
    let m = c.message-item.result in
    subst (All ExtendsNothing) (ap (λ x. take i all ++ x ∷ []) c.message-item.is ∙ sym (take_more all i m c.loop-message-test.true))
    (All-push ExtendsNothing (take i all) m c.loop-message.invariant
    (extends_nothing m
    (subst (All (λ (field : FieldDescriptorProto). field.extendee ≡ None)) c.as_slice.ensures (c.may_extend.ensures c.if-may_extend.false))
    (subst (All (λ (field : FieldDescriptorProto). field.extendee ≡ None)) c.as_slice-else-may_extend.ensures (c.may_extend-else-may_extend.ensures c.if-may_extend-2.false))
    (subst (All ExtendsNothing) c.as_slice-else-may_extend-2.ensures (c.may_hold_extensions.ensures c.if-may_hold_extensions.false))))

pub returns : goal.returns
returns n c said =
    let end : length c.args.messages.now ≤ c.loop-message.message-index = omega arith in
    subst (All ExtendsNothing) (take_all c.loop-message.message-index c.args.messages.now end) c.loop-message.invariant
