use Rattle.std.proofs.Common.{arith, length, ap, sym, ◌∙◌}
use Rattle.std.specs.List.{list_any}
use Rattle.protox_ast.specs.Steps.{of_body, of_extend, of_field, of_item}
use Rattle.protox_ast.specs.declared.ast.Extend.{out-Extend}
use Rattle.protox_ast.specs.declared.ast.MessageBody.{out-MessageBody}
use Rattle.protox_ast.specs.declared.ast.Oneof.{out-Oneof}
use Rattle.protox_generate.specs.Repeats.{repeat_steps, repeats_extendee, repeats_options}
use Rattle.protox_generate.proofs.Repeating.{found_at, none_found, or_other, body_repeats, oneof_repeats, extend_repeats}
use Rattle.protox_generate.proofs.repeats.+repeats.Goals as goal

pub in_body-returns-else-some_repeat_options : goal.in_body-returns-else-some_repeat_options
in_body-returns-else-some_repeat_options t c =
    let x = c.args.ast.now in
    or_other (list_any repeats_options (out-MessageBody x).extensions) (list_any (of_item repeat_steps) (out-MessageBody x).items) (of_body repeat_steps x) c.in_items.result
    (ap (list_any repeats_options) (sym c.as_slice.ensures) ∙ sym c.some_repeat_options.ensures ∙ c.if-some_repeat_options.false)
    (body_repeats x) c.in_items.ensures

pub in_extend-returns-else-repeats_extendee : goal.in_extend-returns-else-repeats_extendee
in_extend-returns-else-repeats_extendee t c =
    let x = c.args.ast.now in
    or_other (repeats_extendee (out-Extend x).extendee (length (out-Extend x).fields)) (list_any (of_field repeat_steps) (out-Extend x).fields) (of_extend repeat_steps x) c.in_extend_fields.result
    (sym c.repeats_extendee.ensures ∙ c.if-repeats_extendee.false)
    (extend_repeats x) c.in_extend_fields.ensures

pub in_oneof-returns-then-in_field : goal.in_oneof-returns-then-in_field
in_oneof-returns-then-in_field t c =
    found_at (of_field repeat_steps) c.as_slice-field-items.result.now (out-Oneof c.args.ast.now).fields c.loop-field.field-index c.field-item.result c.as_slice-field-items.ensures (omega arith) c.field-item.is (sym c.in_field.ensures ∙ c.if-in_field.true)
    ∙ oneof_repeats c.args.ast.now

pub in_oneof-returns : goal.in_oneof-returns
in_oneof-returns t c =
    none_found (of_field repeat_steps) c.as_slice-field-items.result.now (out-Oneof c.args.ast.now).fields c.loop-field.field-index c.as_slice-field-items.ensures (omega arith) c.loop-field.invariant
    ∙ oneof_repeats c.args.ast.now
