use Rattle.std.proofs.Common.{◌++◌, flat_map}
use Rattle.protox_ast.specs.Options.{bodies_of}
use Rattle.protox_checks.specs.Nodes.{AnEnumNumber, enum_nodes, enum_value_nodes, option_nodes, reserved_nodes}
use Rattle.protox_checks.proofs.Adding.{both, both-at, on-ok}
use Rattle.protox_checks.proofs.enums.check_enum.Goals as goal

pub returns : goal.returns
returns c =
    let values = flat_map enum_value_nodes c.as_slice.result.now in
    let reserved = reserved_nodes AnEnumNumber c.as_slice-2.result.now in
    let options = option_nodes (bodies_of c.as_slice-3.result.now) in
    on-ok c.check_statements.result
    (λ h. both-at c.args.errors.now c.check_enum_values.new.errors c.check_statements.new.errors values (reserved ++ options) (enum_nodes c.args.ast.now)
    (λ i. flat_map enum_value_nodes (c.as_slice.ensures i) ++ (reserved_nodes AnEnumNumber (c.as_slice-2.ensures i) ++ option_nodes (bodies_of (c.as_slice-3.ensures i))))
    c.in_ok-check_enum_values.ensures
    (both c.check_enum_values.new.errors c.check_reserved.new.errors c.check_statements.new.errors reserved options c.in_ok-check_reserved.ensures h))
    c.check_statements.ensures
