use Rattle.std.proofs.Common.{not, ap, sym, ◌∙◌}
use Rattle.std.specs.Prelude.{◌&&◌}
use Rattle.std.proofs.lemmas.Result.{IfErr-weaker, IfOk-weaker}
use Rattle.protox_interpret.proofs.Giving.{never_empty, never_undeclared, not_set_by_it, set_already, set_by_it}
use Rattle.protox_set_paths.specs.Paths.{is_set}
use Rattle.protox_settings.specs.Fields.{is_repeated}
use Rattle.protox_interpret.proofs.statement.set_by.Goals as goal

pub returns-in_default-clause-err : goal.returns-in_default-clause-err
returns-in_default-clause-err c leads =
    absurd (never_empty c.args.here c.args.statement.now.name c.args.fields.now leads c.in_default.ensures.cases)

pub returns-in_default-field_numbered-clause-err : goal.returns-in_default-field_numbered-clause-err
returns-in_default-field_numbered-clause-err c leads =
    absurd (never_undeclared c.args.here c.args.statement.now.name c.args.fields.now c.in-Some.outer.now c.in-Some.last.now leads c.in-Some.ensures.cases.0
    (sym c.in_default-field_numbered.ensures))

pub returns-then-is_taken-clause-err : goal.returns-then-is_taken-clause-err
returns-then-is_taken-clause-err c leads =
    set_already c.args.here c.args.statement.now c.args.set.now c.args.fields.now c.in-Some.outer.now c.in-Some.last.now c.in-Some-field_numbered.field.now
    c.in-Some.ensures.cases.0 leads (sym c.in-Some-field_numbered.ensures) c.in-Ok.path.items c.in-Ok.ensures
    (ap (λ path. not (is_repeated c.in-Some-field_numbered.field.now) && is_set c.args.set.now path) (sym c.as_slice.ensures.value)
    ∙ sym c.is_taken.ensures ∙ c.if-is_taken.true)

pub returns-clause-ok : goal.returns-clause-ok
returns-clause-ok c leads =
    IfOk-weaker c.set_at.result _ _
    (λ setting is. set_by_it c.args.here c.args.statement.now c.args.set.now c.args.fields.now c.in-Some.outer.now c.in-Some.last.now c.in-Some-field_numbered.field.now
    c.in-Some.ensures.cases.0 leads (sym c.in-Some-field_numbered.ensures) c.in-Ok.path.items setting c.in-Ok.ensures
    (ap (λ path. not (is_repeated c.in-Some-field_numbered.field.now) && is_set c.args.set.now path) (sym c.as_slice.ensures.value)
    ∙ sym c.is_taken.ensures ∙ c.if-is_taken.false)
    is.0 is.1 is.2 is.3)
    c.set_at.ensures.ok

pub returns-clause-err : goal.returns-clause-err
returns-clause-err c leads =
    IfErr-weaker c.set_at.result _ _
    (not_set_by_it c.args.here c.args.statement.now c.args.set.now c.args.fields.now c.in-Some.outer.now c.in-Some.last.now c.in-Some-field_numbered.field.now
    c.in-Some.ensures.cases.0 leads (sym c.in-Some-field_numbered.ensures))
    c.set_at.ensures.err
