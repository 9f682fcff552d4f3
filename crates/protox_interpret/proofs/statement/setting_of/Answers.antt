use Rattle.std.proofs.Common.{ap, subst, sym, ◌∙◌}
use Rattle.protox_interpret.specs.Sites.{named}
use Rattle.protox_interpret.specs.Statements.{IsWrong, NoName}
use Rattle.protox_interpret.specs.declared.fault.StatementFaultKind.TheVariants as kind
use Rattle.protox_set_paths.specs.Paths.{is_set}
use Rattle.protox_interpret.proofs.statement.setting_of.Goals as goal

pub returns-in-Err-Fault-clause-err : goal.returns-in-Err-Fault-clause-err
returns-in-Err-Fault-clause-err c =
    subst (λ fault. IsWrong c.args.here (is_set c.args.set.now) c.args.statement.now (kind.Name fault)) (sym c.in-Err-Fault.fault-is)
    (NoName c.in-Err-Fault.fault (ap (named c.args.here) (sym c.as_slice-name.ensures) ∙ rw c.in-Err-Fault.field-0-is at c.in-Err-Fault.ensures.fault))
