use Rattle.std.proofs.Common.{◌≡◌, ◌∙◌, ◌++◌, ◌∷◌, ◌≤◌, [], All, ap, arith, length, subst, sym, take}
use Rattle.std.proofs.lemmas.List.{take_all, take_more}
use Rattle.std.proofs.lemmas.List.Elements.{All-push}
use Rattle.protox_descriptor.specs.declared.descriptor.DescriptorProto.{out-DescriptorProto}
use Rattle.protox_link_checks.proofs.Without.{has_no_ranges, no_elements}
use Rattle.protox_link_checks.specs.inner.Bare.{HasNoRanges}
use Rattle.protox_link_checks.proofs.bare.+nested.Goals as goal

pub loop-message-preserved : goal.loop-message-preserved
loop-message-preserved n c =
    let all = c.args.messages.now in
    let i = c.loop-message.message-index in
    let m = c.message-item.result in
    let own : (out-DescriptorProto m).extension_range ≡ [] = no_elements (out-DescriptorProto m).extension_range c.is_empty.result c.if-not-is_empty.false c.is_empty.ensures in
    subst (All HasNoRanges) (ap (λ x. take i all ++ x ∷ []) c.message-item.is ∙ sym (take_more all i m c.loop-message-test.true))
    (All-push HasNoRanges (take i all) m c.loop-message.invariant (has_no_ranges m own (subst (All HasNoRanges) c.as_slice.ensures (c.may_have_ranges.ensures c.if-may_have_ranges.false))))

pub returns : goal.returns
returns n c said =
    let end : length c.args.messages.now ≤ c.loop-message.message-index = omega arith in
    subst (All HasNoRanges) (take_all c.loop-message.message-index c.args.messages.now end) c.loop-message.invariant
