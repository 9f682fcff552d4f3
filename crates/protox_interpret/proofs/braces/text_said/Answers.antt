use Rattle.std.proofs.Common.{subst, sym}
use Rattle.protox_interpret.specs.Braces.{IsNoMessage, NoToken}
use Rattle.protox_interpret.specs.declared.fault.StatementFaultKind.TheVariants as kind
use Rattle.protox_interpret.proofs.braces.text_said.Goals as goal

pub returns-in-Err-Fault-clause-fault : goal.returns-in-Err-Fault-clause-fault
returns-in-Err-Fault-clause-fault c =
    subst (λ span. IsNoMessage c.args.here c.args.message c.args.text.now (kind.Token span)) (sym c.in-Err-Fault.span-is)
    (NoToken c.in-Err-Fault.span (rw c.in-Err-Fault.field-0-is at c.in-Err-Fault.ensures.first))
