use Rattle.std.proofs.Common.{◌≡◌, map, sym, ap, subst, ◌∙◌}
use Rattle.protox_descriptor.specs.declared.descriptor.DescriptorProto.{out-DescriptorProto}
use Rattle.protox_alike.proofs.Apart.{map_twice, none_if_differ}
use Rattle.protox_alike.specs.Keys.{key_of_field}
use Rattle.protox_alike.specs.inner.Prints.{Differ, print_of}
use Rattle.protox_alike.proofs.fields.fields_alike.Goals as goal

-- Keys whose numbers differ are no clash.
pub returns-then-differ : goal.returns-then-differ
returns-then-differ c =
    let fields = (out-DescriptorProto c.args.message.now).field in
    let keys = map key_of_field fields in
    let are : c.deref.result.now ≡ map print_of keys =
    c.deref.ensures.value ∙ c.in_ok-prints.ensures
    ∙ ap (map (λ field. print_of (key_of_field field))) c.as_slice-fields.ensures
    ∙ map_twice print_of key_of_field fields in
    c.new.ensures.items ∙ sym (none_if_differ keys (subst Differ are (c.differ.ensures c.if-differ.true)))
