use Rattle.protox_link_bytes.proofs.Sources.{refusal}
use Rattle.protox_link_bytes.specs.Given.{given_file}
use Rattle.protox_link_bytes.proofs.parsing.with_source.Goals as goal

pub returns-in-Ok : goal.returns-in-Ok
returns-in-Ok c before count so_far = c.with_file.ensures before (given_file c.args.source.now) so_far c.in-Ok.ensures.found

pub returns-in-Err-Refused : goal.returns-in-Err-Refused
returns-in-Err-Refused c before count so_far =
    let promises = c.in-Err-Refused.ensures in
    c.with_refusal.ensures before (given_file c.args.source.now) count so_far
    (refusal c.args.source.now.name.now c.args.source.now.source.now c.in-Err-Refused.field-0 c.in-Err-Refused.error c.in-Err-Refused.field-0-is
    promises.refused promises.only promises.first promises.checked promises.stands promises.lexical promises.all_found promises.no_check_lost promises.words)
