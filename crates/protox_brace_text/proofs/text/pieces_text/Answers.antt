use Rattle.std.proofs.Common.{ap, map, string_bytes, ◌∙◌}
use Rattle.std.proofs.lemmas.Result.{IfOk-weaker}
use Rattle.protox_brace_text.specs.Texts.{fault_text}
use Rattle.protox_brace_text.proofs.Telling.{told_fault, told_form, told_nothing}
use Rattle.protox_brace_text.proofs.text.pieces_text.Goals as goal
use Rattle.protox_text_format.specs.Spelling.{seen}

pub returns-in-Aggregate : goal.returns-in-Aggregate
returns-in-Aggregate c text cut =
    let pieces = c.args.found.now in
    IfOk-weaker c.fault_text.result _ _
    (λ told is. told_fault c.args.here text c.args.kind.now (string_bytes told) pieces cut (map seen c.in-Ok.items.items) c.in-Aggregate.fault
    c.in-Aggregate.is c.in-Ok.ensures.spelled
    (is ∙ ap (λ items. fault_text c.args.here pieces (map seen items) c.in-Aggregate.fault) c.as_slice.ensures.value))
    c.fault_text.ensures

pub returns-in-Ok : goal.returns-in-Ok
returns-in-Ok c text cut =
    told_nothing c.args.here text c.args.kind.now (string_bytes c.new.result) c.args.found.now cut (map seen c.in-Ok.items.items)
    c.in_default.not-Aggregate c.in-Ok.ensures.spelled c.new.ensures.bytes

pub returns-in-Err-Fault : goal.returns-in-Err-Fault
returns-in-Err-Fault c text cut =
    IfOk-weaker c.form_fault_text.result _ _
    (λ told is. told_form c.args.here text c.args.kind.now (string_bytes told) c.args.found.now cut c.in-Err-Fault.fault
    (rw c.in-Err-Fault.field-0-is at c.in-Err-Fault.ensures.first) is)
    c.form_fault_text.ensures
