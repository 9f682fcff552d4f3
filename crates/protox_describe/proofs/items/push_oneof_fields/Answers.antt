use Rattle.std.proofs.Common.{◌<◌, ◌++◌, length, map, take_all, arith, ap, sym, ◌∙◌}
use Rattle.protox_ast.specs.Steps.{of_field}
use Rattle.protox_ast.proofs.Lemmas.{oneof-gives}
use Rattle.protox_describe.specs.Descriptor.{descriptor_steps, in_oneof}
use Rattle.protox_describe.proofs.Lists.{more-mapped}
use Rattle.protox_describe.proofs.items.push_oneof_fields.Goals as goal

pub loop-part-preserved : goal.loop-part-preserved
loop-part-preserved c =
    let items = c.as_slice-part-items.result.now in
    let i = c.loop-part.part-index in
    let x = c.part-item.result in
    let lt : i < length items = omega arith in
    more-mapped (in_oneof c.args.oneof_index) (of_field (descriptor_steps c.args.syntax)) items i x c.args.found.now _ _ lt c.part-item.is c.loop-part.invariant c.in_ok-push_field.ensures

pub returns : goal.returns
returns c =
    let steps = descriptor_steps c.args.syntax in
    let all = take_all c.loop-part.part-index c.as_slice-part-items.result.now (omega arith) ∙ c.as_slice-part-items.ensures in
    c.loop-part.invariant ∙ ap (λ l. c.args.found.now ++ map (in_oneof c.args.oneof_index) (map (of_field steps) l)) all
    ∙ ap (λ o. c.args.found.now ++ map (in_oneof c.args.oneof_index) o.fields) (sym (oneof-gives steps c.args.ast.now))
