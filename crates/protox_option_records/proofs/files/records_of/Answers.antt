use Rattle.std.proofs.Common.{◌∙◌, List, ℕ, subst, sym}
use Rattle.std.proofs.lemmas.Result.{IfOk-weaker}
use Rattle.protox_option_records.proofs.Lists.{none_in}
use Rattle.protox_option_records.proofs.Reading.{none_told}
use Rattle.protox_option_records.specs.OptionRecords.{AreRecordsAt, FileAt}
use Rattle.protox_option_records.proofs.files.records_of.Goals as goal

pub returns-then-is_empty : goal.returns-then-is_empty
returns-then-is_empty c is =
    let at : FileAt = record { number = c.args.number; source = c.args.source.now; file = c.args.file.now; view = c.args.view.now; files = c.args.files.now } in
    let none = sym c.as_slice-faults.ensures.value ∙ none_in c.as_slice-faults.result.now (sym c.if-is_empty.true ∙ c.is_empty.ensures) in
    subst (AreRecordsAt at is.taken) (sym c.new.ensures.items) (none_told at is.taken (sym is.faults ∙ none))

pub returns : goal.returns
returns c is =
    let at : List ℕ → FileAt = λ source. record { number = c.args.number; source = source; file = c.args.file.now; view = c.args.view.now; files = c.args.files.now } in
    IfOk-weaker c.fault_records.result _ _
    (λ told records. subst (λ (source : List ℕ). AreRecordsAt (at source) is.taken told.items) c.in_ok-lines.ensures records)
    (c.fault_records.ensures c.args.answer.now is c.as_slice-faults.ensures.value)
