use Rattle.std.proofs.Common.{map, subst, sym}
use Rattle.protox_interpret.specs.Braces.{IsNoMessage, NoText}
use Rattle.protox_interpret.specs.declared.fault.StatementFaultKind.TheVariants as kind
use Rattle.protox_text_format.specs.Spelling.{AMessage, Spells, seen}
use Rattle.protox_interpret.proofs.braces.pieces_said.Goals as goal

pub returns-in-Ok-clause-said : goal.returns-in-Ok-clause-said
returns-in-Ok-clause-said c text cut =
    c.entries_said.ensures.said text c.args.found.now cut
    (subst (λ items. Spells AMessage 100 c.args.found.now (map seen items)) (sym c.as_slice.ensures.value) c.in-Ok.ensures.spelled)

pub returns-in-Ok-clause-fault : goal.returns-in-Ok-clause-fault
returns-in-Ok-clause-fault c text cut =
    c.entries_said.ensures.fault text c.args.found.now cut
    (subst (λ items. Spells AMessage 100 c.args.found.now (map seen items)) (sym c.as_slice.ensures.value) c.in-Ok.ensures.spelled)

pub returns-in-Err-Fault-clause-fault : goal.returns-in-Err-Fault-clause-fault
returns-in-Err-Fault-clause-fault c text cut =
    subst (λ fault. IsNoMessage c.args.here c.args.message text (kind.Text fault)) (sym c.in-Err-Fault.fault-is)
    (NoText c.args.found.now c.in-Err-Fault.fault cut (rw c.in-Err-Fault.field-0-is at c.in-Err-Fault.ensures.first))
