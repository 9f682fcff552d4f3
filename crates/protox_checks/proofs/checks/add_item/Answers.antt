use Rattle.std.proofs.Common.{◌++◌, ap, sym, ◌∙◌}
use Rattle.protox_checks.specs.Checks.{nodes_faults}
use Rattle.protox_checks.specs.Nodes.{item_nodes}
use Rattle.protox_checks.proofs.Adding.{on-ok}
use Rattle.protox_checks.proofs.checks.add_item.Goals as goal

pub returns-in-Enum : goal.returns-in-Enum
returns-in-Enum c =
    on-ok c.check_enum.result (λ h. h c.args.syntax ∙ ap (λ l. c.args.errors.now ++ nodes_faults c.args.syntax l) (sym (ap item_nodes c.in-Enum.is))) c.check_enum.ensures

pub returns-in-Service : goal.returns-in-Service
returns-in-Service c =
    on-ok c.check_service.result (λ h. h c.args.syntax ∙ ap (λ l. c.args.errors.now ++ nodes_faults c.args.syntax l) (sym (ap item_nodes c.in-Service.is))) c.check_service.ensures
