use Rattle.std.proofs.Common.{subst, sym}
use Rattle.protox_ffi.proofs.Reporting.{reason-is}
use Rattle.protox_ffi.proofs.found.descriptor_of_text.Goals as goal
use Rattle.protox_ffi.specs.Outcomes.{HasNoDescriptor}

pub returns-in-Err : goal.returns-in-Err
returns-in-Err c =
    let why = reason-is c.in-Err.failure c.args.name.now c.args.source.now (λ d is. c.in-Err.ensures.only d is) in
    subst (HasNoDescriptor c.args.name.now c.args.source.now) (sym c.reason_of.ensures) why
