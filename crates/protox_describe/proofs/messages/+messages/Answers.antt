use Rattle.std.proofs.Common.{◌<◌, ◌++◌, [], length, map, take_all, arith, ap, sym, ◌∙◌}
use Rattle.std.specs.List.{flat_map}
use Rattle.protox_ast.specs.Steps.{of_field, of_item}
use Rattle.protox_ast.specs.declared.ast.Extend.{out-Extend}
use Rattle.protox_ast.proofs.Lemmas.{extend-gives, oneof-gives}
use Rattle.protox_describe.specs.Descriptor.{Gives, descriptor_steps, nested_of}
use Rattle.protox_describe.proofs.Lists.{more-flat}
use Rattle.protox_describe.proofs.Oneofs.{extending-nested}
use Rattle.protox_describe.proofs.messages.+messages.Goals as goal

pub nested-loop-item-preserved : goal.nested-loop-item-preserved
nested-loop-item-preserved t c =
    let items = c.as_slice-item-items.result.now in
    let i = c.loop-item.item-index in
    let x = c.item-item.result in
    let lt : i < length items = omega arith in
    more-flat nested_of (of_item (descriptor_steps c.args.syntax)) items i x [] _ _ lt c.item-item.is c.loop-item.invariant c.in_ok-push_nested.ensures

pub push_oneof_messages-loop-part-preserved : goal.push_oneof_messages-loop-part-preserved
push_oneof_messages-loop-part-preserved t c =
    let items = c.as_slice-part-items.result.now in
    let i = c.loop-part.part-index in
    let x = c.part-item.result in
    let lt : i < length items = omega arith in
    more-flat (λ (gives : Gives). gives.nested) (of_field (descriptor_steps c.args.syntax)) items i x c.args.found.now _ _ lt c.part-item.is c.loop-part.invariant c.in_ok-push_field_messages.ensures

pub push_oneof_messages-returns : goal.push_oneof_messages-returns
push_oneof_messages-returns t c =
    let steps = descriptor_steps c.args.syntax in
    let all = take_all c.loop-part.part-index c.as_slice-part-items.result.now (omega arith) ∙ c.as_slice-part-items.ensures in
    c.loop-part.invariant ∙ ap (λ l. c.args.found.now ++ flat_map (λ (gives : Gives). gives.nested) (map (of_field steps) l)) all
    ∙ ap (λ o. c.args.found.now ++ flat_map (λ (gives : Gives). gives.nested) o.fields) (sym (oneof-gives steps c.args.ast.now))

pub push_extend_messages-loop-part-preserved : goal.push_extend_messages-loop-part-preserved
push_extend_messages-loop-part-preserved t c =
    let items = c.as_slice-part-items.result.now in
    let i = c.loop-part.part-index in
    let x = c.part-item.result in
    let lt : i < length items = omega arith in
    more-flat (λ (gives : Gives). gives.nested) (of_field (descriptor_steps c.args.syntax)) items i x c.args.found.now _ _ lt c.part-item.is c.loop-part.invariant c.in_ok-push_field_messages.ensures

pub push_extend_messages-returns : goal.push_extend_messages-returns
push_extend_messages-returns t c =
    let steps = descriptor_steps c.args.syntax in
    let all = take_all c.loop-part.part-index c.as_slice-part-items.result.now (omega arith) ∙ c.as_slice-part-items.ensures in
    c.loop-part.invariant ∙ ap (λ l. c.args.found.now ++ flat_map (λ (gives : Gives). gives.nested) (map (of_field steps) l)) all
    ∙ ap (λ l. c.args.found.now ++ l)
    (sym (ap (flat_map (λ (gives : Gives). gives.nested)) (extend-gives steps c.args.ast.now) ∙ extending-nested (out-Extend c.args.ast.now).extendee (map (of_field steps) (out-Extend c.args.ast.now).fields)))
