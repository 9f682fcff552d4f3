use Rattle.std.proofs.Common.{[], ◌∷◌}
use Rattle.protox_ast.specs.Options.{listed}
use Rattle.protox_checks.specs.Nodes.{AnEnumNumber, option_nodes}
use Rattle.protox_checks.proofs.Adding.{both, in-one, on-ok}
use Rattle.protox_checks.proofs.enums.check_enum_value.Goals as goal

pub returns : goal.returns
returns c =
    on-ok c.check_listed.result
    (both c.args.errors.now c.check_enum_number.new.errors c.check_listed.new.errors (AnEnumNumber c.args.ast.now.number ∷ []) (option_nodes (listed c.args.ast.now.options)) (λ s. in-one s (AnEnumNumber c.args.ast.now.number) _ _ c.in_ok-check_enum_number.ensures))
    c.check_listed.ensures
