use Rattle.std.proofs.Common.{subst}
use Rattle.protox_ffi.specs.Linked.{RecordsAre}
use Rattle.protox_link_bytes.specs.Given.{given}
use Rattle.protox_link_bytes.specs.Outcomes.{HasNoSet}
use Rattle.protox_ffi.proofs.linked.found_for.Goals as goal

pub returns-in-None-clause-found : goal.returns-in-None-clause-found
returns-in-None-clause-found c =
    RecordsAre c.in-Err-Refused.records.items
    (subst (HasNoSet (given c.args.texts.now)) c.in-Err-Refused.field-0-is c.in-Err-Refused.ensures.without)
    c.in-None.ensures
