use Rattle.std.proofs.Common.{Ok, map, ap, ◌∙◌}
use Rattle.protox_interpret.specs.Braces.{SaysNothing}
use Rattle.protox_text_format.specs.Spelling.{seen}
use Rattle.protox_interpret.proofs.braces.entries_said.Goals as goal

pub returns-in-Ok-clause-said : goal.returns-in-Ok-clause-said
returns-in-Ok-clause-said c text pieces cut spelled =
    let (parts, are) = c.in-Ok.ensures.whole 100 pieces spelled in
    (parts, are, record { pieces = pieces; read = map seen c.args.items.now; cut = cut; spelled = spelled; said = c.in-Ok.ensures.said ∙ ap Ok are })

pub returns-in-Err-Fault-clause-fault : goal.returns-in-Err-Fault-clause-fault
returns-in-Err-Fault-clause-fault c text pieces cut spelled =
    SaysNothing pieces (map seen c.args.items.now) c.in-Err-Fault.fault cut spelled (rw c.in-Err-Fault.field-0-is at c.in-Err-Fault.ensures.fault)
