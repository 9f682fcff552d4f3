use Rattle.std.proofs.Common.{◌++◌, ◌≤◌, List, Option, ℕ, length, w32, sym, ap, subst, ◌∙◌, arith}
use Rattle.std.specs.List.{flat_map}
use Rattle.std.proofs.lemmas.Int.{to_z-of_z}
use Rattle.protox_descriptor.specs.declared.descriptor.DescriptorProto.{out-DescriptorProto}
use Rattle.protox_symbols.specs.Scopes.{IsFoundScope}
use Rattle.protox_walk.specs.Declarations.{all_in, full_name, message_at, siblings_at}
use Rattle.protox_link_checks.specs.Extensions.{extension_of}
use Rattle.protox_link_checks.proofs.Folding.{sibling_checked, siblings_checked}
use Rattle.protox_link_checks.proofs.InExtensions.{message_extensions}
use Rattle.protox_link_checks.proofs.extensions.+nested.Goals as goal

pub loop-index-preserved : goal.loop-index-preserved
loop-index-preserved n c full h =
    let view = c.args.view.now in
    let t = view.symbols.now in
    let message = c.index-messages-index.result in
    let name = full_name full (out-DescriptorProto message).name in
    let inner = subst (λ (read : Option (List ℕ)). IsFoundScope t (full_name full read) c.inside-inner.result) c.as_ref.ensures.value (c.inside-inner.ensures full h) in
    sibling_checked (extension_of t view.sees.now view.packages) message_at full c.args.path.now c.as_slice-path.result.now _ c.args.messages.now c.loop-index.index
    message c.loop-index.made.items c.add_fields-in-loop-index.new.made.items c.loop-index-test.true c.index-messages-index.is (rw c.as_slice-path.ensures c.in_ok-place.ensures)
    (message_extensions t view.sees.now view.packages message full c.as_slice-path.result.now c.loop-index.made.items c.add_fields.new.made.items c.add_messages.new.made.items c.add_fields-in-loop-index.new.made.items
    (rw (← c.as_slice-fields.ensures) (c.in_ok-add_fields.ensures name inner))
    (rw (← c.as_slice-nested.ensures) (c.in_ok-add_messages.ensures name inner))
    (rw (← c.as_slice-extensions.ensures) (c.in_ok-add_fields-2.ensures name inner)))
    ∙ c.loop-index.invariant full h

pub returns : goal.returns
returns n c full h =
    let view = c.args.view.now in
    let extension = extension_of view.symbols.now view.sees.now view.packages in
    let end : length c.args.messages.now ≤ c.loop-index.index = omega arith in
    sym (siblings_checked extension message_at full c.args.path.now _ c.args.messages.now c.loop-index.index c.loop-index.made.items end)
    ∙ c.loop-index.invariant full h
    ∙ ap (λ tag. c.args.made.now.items ++ flat_map extension (siblings_at c.args.path.now tag (all_in message_at full c.args.messages.now))) (to_z-of_z w32 c.args.tag c.ranges.tag)
