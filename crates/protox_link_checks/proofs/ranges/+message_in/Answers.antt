use Rattle.std.proofs.Common.{◌≡◌, ◌∙◌, ◌-◌, Some, true, get_or, pos, rules}
use Rattle.std.specs.Ordering.{int_eq}
use Rattle.protox_descriptor.specs.declared.descriptor.DescriptorProto.{out-DescriptorProto}
use Rattle.protox_descriptor.specs.declared.tag.message.TheConstants.{NESTED_TYPE}
use Rattle.protox_link_checks.specs.Extensions.{message_in, part_at}
use Rattle.protox_link_checks.proofs.Ranging.{stepped}
use Rattle.protox_link_checks.proofs.ranges.+message_in.Goals as goal

pub returns-in_ok-part_at-in-len2-up : goal.returns-in_ok-part_at-in-len2-up
returns-in_ok-part_at-in-len2-up n c =
    let is : int_eq (get_or c.args.path.now 0 (pos 0)) NESTED_TYPE ≡ true = search (rules, c.if-tag-eq-NESTED_TYPE.true) in
    let at : part_at (out-DescriptorProto c.args.from.now).nested_type (get_or c.args.path.now 1 (pos 0)) ≡ Some c.in_ok-part_at-in-len2-up.field-0.now =
    search (rules, c.part_at.ensures, c.as_slice.ensures, c.in_ok-part_at-in-len2-up.was) in
    c.message_in.ensures ∙ stepped c.args.from.now c.in_ok-part_at-in-len2-up.field-0.now c.args.path.now c.in-len2-up.len_at_least is at
