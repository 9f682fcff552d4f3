use Rattle.protox_ffi.proofs.Reporting.{is_file, reported}
use Rattle.protox_ffi.proofs.found.report_of_text.Goals as goal

pub returns-in-Ok : goal.returns-in-Ok
returns-in-Ok c = is_file c.args.name.now c.args.source.now _ c.in-Ok.ensures.found

pub returns-in-Err-Refused : goal.returns-in-Err-Refused
returns-in-Err-Refused c =
    let promises = c.in-Err-Refused.ensures in
    c.records_of.ensures c.args.name.now c.args.source.now (reported c.args.name.now c.args.source.now c.in-Err-Refused.field-0 c.in-Err-Refused.error c.in-Err-Refused.field-0-is
    promises.refused promises.only promises.first promises.checked promises.stands promises.lexical promises.all_found promises.no_check_lost promises.words)
