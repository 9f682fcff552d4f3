use Rattle.std.proofs.Common.{[], ◌∷◌, ◌++◌, arith, ap, flat_map, map, sym, ◌∙◌}
use Rattle.protox_ast.specs.Options.{bodies_of}
use Rattle.protox_ast.specs.Steps.{of_field, of_item}
use Rattle.protox_ast.specs.declared.ast.Extend.{out-Extend}
use Rattle.protox_ast.specs.declared.ast.Field.{out-Field}
use Rattle.protox_ast.specs.declared.ast.MessageBody.{out-MessageBody}
use Rattle.protox_ast.specs.declared.ast.Oneof.{out-Oneof}
use Rattle.protox_ast.proofs.Lemmas.{item-enum}
use Rattle.protox_checks.specs.Checks.{nodes_faults}
use Rattle.protox_checks.specs.FieldFaults.{InExtend, InOneof}
use Rattle.protox_checks.specs.Nodes.{AField, AMessageNumber, empty_nodes, fields_nodes, node_steps, option_nodes}
use Rattle.protox_checks.specs.inner.Walk.{field_node}
use Rattle.protox_checks.proofs.Adding.{in-all, in-both, in-both-at, in-one, on-ok}
use Rattle.protox_checks.proofs.NodeLevels.{aside, body-nodes, extend-nodes, field_in, field_options, field-nodes, fields-flat, inside, oneof-nodes}
use Rattle.protox_checks.proofs.messages.+messages.Goals as goal

pub check_body-returns : goal.check_body-returns
check_body-returns t c =
    on-ok c.check_set_aside.result
    (λ h. in-both-at c.args.syntax c.args.errors.now c.check_items.new.errors c.check_set_aside.new.errors (flat_map (of_item node_steps) (out-MessageBody c.args.ast.now).items) (aside c.args.ast.now) _ (body-nodes c.args.ast.now) c.in_ok-check_items.ensures (h c.args.syntax))
    c.check_set_aside.ensures

pub check_item-returns-in-Enum : goal.check_item-returns-in-Enum
check_item-returns-in-Enum t c =
    on-ok c.check_enum.result
    (λ h. h c.args.syntax ∙ ap (λ l. c.args.errors.now ++ nodes_faults c.args.syntax l) (sym (ap (of_item node_steps) c.in-Enum.is ∙ item-enum node_steps c.in-Enum.ast)))
    c.check_enum.ensures

pub check_oneof-returns : goal.check_oneof-returns
check_oneof-returns t c =
    let s = c.args.syntax in
    let o = out-Oneof c.args.ast.now in
    let fields = fields_nodes InOneof (map (of_field node_steps) o.fields) in
    let empty = empty_nodes o.fields o.span in
    on-ok c.check_oneof_fields.result
    (λ h. in-both-at s c.args.errors.now c.check_statements.new.errors c.check_oneof_fields.new.errors (option_nodes (bodies_of c.as_slice.result.now)) (empty ++ fields) _
    (ap (λ l. option_nodes (bodies_of l) ++ (empty ++ fields)) c.as_slice.ensures ∙ oneof-nodes c.args.ast.now) (c.in_ok-check_statements.ensures s)
    (in-both s c.check_statements.new.errors c.check_empty.new.errors c.check_oneof_fields.new.errors empty fields (c.in_ok-check_empty.ensures s) h))
    c.check_oneof_fields.ensures

pub check_oneof_fields-returns : goal.check_oneof_fields-returns
check_oneof_fields-returns t c =
    in-all c.args.syntax (field_in InOneof) c.as_slice-field-items.result.now (out-Oneof c.args.ast.now).fields c.loop-field.field-index _ _ (omega arith) c.as_slice-field-items.ensures c.loop-field.invariant
    ∙ ap (λ l. c.args.errors.now ++ nodes_faults c.args.syntax l) (fields-flat InOneof (out-Oneof c.args.ast.now).fields)

pub check_extend-returns : goal.check_extend-returns
check_extend-returns t c =
    in-all c.args.syntax (field_in InExtend) c.as_slice-field-items.result.now (out-Extend c.args.ast.now).fields c.loop-field.field-index _ _ (omega arith) c.as_slice-field-items.ensures c.loop-field.invariant
    ∙ ap (λ l. c.args.errors.now ++ nodes_faults c.args.syntax l) (extend-nodes c.args.ast.now)

pub check_field-returns : goal.check_field-returns
check_field-returns t c =
    let s = c.args.syntax in
    let x = c.args.ast.now in
    let number = AMessageNumber (out-Field x).number in
    let itself = AField c.args.scope (field_node x) in
    on-ok c.check_field_options.result
    (λ h. in-both-at s c.args.errors.now c.check_message_number.new.errors c.check_field_options.new.errors (number ∷ []) (itself ∷ (inside x ++ field_options x)) _ (field-nodes x c.args.scope)
    (in-one s number _ _ c.in_ok-check_message_number.ensures)
    (in-both s c.check_message_number.new.errors c.check_field_itself.new.errors c.check_field_options.new.errors (itself ∷ []) (inside x ++ field_options x)
    (in-one s itself _ _ c.in_ok-check_field_itself.ensures)
    (in-both s c.check_field_itself.new.errors c.check_inside.new.errors c.check_field_options.new.errors (inside x) (field_options x) c.in_ok-check_inside.ensures (h s))))
    c.check_field_options.ensures
