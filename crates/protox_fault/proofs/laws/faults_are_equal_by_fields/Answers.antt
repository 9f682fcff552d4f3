use Rattle.std.proofs.Common.{sym, ◌∙◌}
use Rattle.protox_fault.proofs.Equal.{same-of-equal, equal-of-same}
use Rattle.protox_fault.proofs.laws.faults_are_equal_by_fields.Goals as goal

pub returns : goal.returns
returns c = (λ h. same-of-equal c.args.a.now c.args.b.now (sym c.eq.ensures ∙ h), λ h. c.eq.ensures ∙ equal-of-same c.args.a.now c.args.b.now h)
