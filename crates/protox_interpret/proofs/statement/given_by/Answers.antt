use Rattle.std.proofs.Common.{Ok, ap, subst, sym, ◌∙◌}
use Rattle.std.proofs.lemmas.Result.{IfErr-weaker, IfOk-weaker}
use Rattle.protox_aggregate.specs.Fields.{wire_number}
use Rattle.protox_interpret.proofs.Giving.{gives_message, gives_value, no_message}
use Rattle.protox_interpret.specs.Statements.{GivesNothing, NoValue, steps_of}
use Rattle.protox_interpret.specs.declared.fault.StatementFaultKind.TheVariants as kind
use Rattle.protox_setting_bytes.specs.Bytes.{setting_bytes}
use Rattle.protox_interpret.proofs.statement.given_by.Goals as goal

pub returns-in-Ok-Value-clause-ok : goal.returns-in-Ok-Value-clause-ok
returns-in-Ok-Value-clause-ok c =
    IfOk-weaker c.value_given.result _ _
    (λ given is. gives_value c.args.here c.args.fields.now c.args.outer.now c.args.field.now c.args.statement.now given.inside.items given.bytes.items
    c.in-Ok-Value.value (c.in-Ok-Value.ensures.said ∙ ap Ok c.in-Ok-Value.field-0-is) is.0
    (is.1 ∙ ap (setting_bytes (steps_of c.args.here c.args.outer.now) (wire_number c.args.field.now)) c.in-Ok-Value.value-is))
    c.value_given.ensures.ok

pub returns-in-Ok-Aggregate-clause-ok : goal.returns-in-Ok-Aggregate-clause-ok
returns-in-Ok-Aggregate-clause-ok c =
    IfOk-weaker c.message_given.result _ _
    (λ given is. gives_message c.args.here c.args.fields.now c.args.outer.now c.args.field.now c.args.statement.now given.inside.items given.bytes.items
    c.in-Ok-Aggregate.message is.0 (c.in-Ok-Aggregate.ensures.said ∙ ap Ok c.in-Ok-Aggregate.field-0-is) is.1 is.2 is.3)
    c.message_given.ensures.ok

pub returns-in-Ok-Aggregate-clause-err : goal.returns-in-Ok-Aggregate-clause-err
returns-in-Ok-Aggregate-clause-err c =
    IfErr-weaker c.message_given.result _ _
    (no_message c.args.here c.args.field.now c.args.statement.now c.in-Ok-Aggregate.message (c.in-Ok-Aggregate.ensures.said ∙ ap Ok c.in-Ok-Aggregate.field-0-is))
    c.message_given.ensures.err

pub returns-in-Err-Fault-clause-err : goal.returns-in-Err-Fault-clause-err
returns-in-Err-Fault-clause-err c =
    subst (λ fault. GivesNothing c.args.here c.args.field.now c.args.statement.now (kind.Value fault)) (sym c.in-Err-Fault.fault-is)
    (NoValue c.in-Err-Fault.fault (rw c.in-Err-Fault.field-0-is at c.in-Err-Fault.ensures.fault))
