use Rattle.std.proofs.Common.{◌<◌, ◌∷◌, ◌++◌, [], length, map, take_all, arith, ap, sym, ◌∙◌}
use Rattle.protox_ast.specs.Steps.{of_field}
use Rattle.protox_ast.specs.declared.ast.Extend.{out-Extend}
use Rattle.protox_ast.proofs.Lemmas.{extend-gives}
use Rattle.protox_describe.specs.Descriptor.{Gives, descriptor_steps, extending}
use Rattle.protox_describe.proofs.Lists.{map-twice, more-mapped}
use Rattle.protox_describe.proofs.items.push_extensions.Goals as goal

pub loop-part-preserved : goal.loop-part-preserved
loop-part-preserved c =
    let items = c.as_slice-part-items.result.now in
    let i = c.loop-part.part-index in
    let x = c.part-item.result in
    let lt : i < length items = omega arith in
    let extendee = (out-Extend c.args.ast.now).extendee in
    more-mapped (λ (gives : Gives). gives.field) (λ part. extending extendee (of_field (descriptor_steps c.args.syntax) part)) items i x c.args.found.now _ _ lt c.part-item.is c.loop-part.invariant
    (c.in_ok-push.ensures.ok ∙ ap (λ field. c.loop-part.found ++ field ∷ []) c.in_ok-extension_field.ensures)

pub returns : goal.returns
returns c =
    let steps = descriptor_steps c.args.syntax in
    let extendee = (out-Extend c.args.ast.now).extendee in
    let all = take_all c.loop-part.part-index c.as_slice-part-items.result.now (omega arith) ∙ c.as_slice-part-items.ensures in
    c.loop-part.invariant ∙ ap (λ l. c.args.found.now ++ map (λ (gives : Gives). gives.field) (map (λ part. extending extendee (of_field steps part)) l)) all
    ∙ ap (λ l. c.args.found.now ++ map (λ (gives : Gives). gives.field) l) (sym (extend-gives steps c.args.ast.now ∙ map-twice (extending extendee) (of_field steps) (out-Extend c.args.ast.now).fields))
