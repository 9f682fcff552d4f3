use Rattle.std.proofs.Common.{◌++◌, flat_map}
use Rattle.protox_ast.specs.Options.{bodies_of}
use Rattle.protox_checks.specs.Nodes.{method_nodes, option_nodes, service_nodes}
use Rattle.protox_checks.proofs.Adding.{both-at, on-ok}
use Rattle.protox_checks.proofs.enums.check_service.Goals as goal

pub returns : goal.returns
returns c =
    on-ok c.check_statements.result
    (both-at c.args.errors.now c.check_methods.new.errors c.check_statements.new.errors (flat_map method_nodes c.as_slice.result.now) (option_nodes (bodies_of c.as_slice-2.result.now)) (service_nodes c.args.ast.now)
    (λ i. flat_map method_nodes (c.as_slice.ensures i) ++ option_nodes (bodies_of (c.as_slice-2.ensures i)))
    c.in_ok-check_methods.ensures)
    c.check_statements.ensures
