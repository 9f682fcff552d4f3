use Rattle.std.proofs.Common.{◌++◌, flat_map}
use Rattle.protox_ast.specs.Options.{bodies_of}
use Rattle.protox_checks.specs.Nodes.{AMessageNumber, extensions_nodes, option_nodes, reserved_nodes}
use Rattle.protox_checks.proofs.Adding.{both, both-at, on-ok}
use Rattle.protox_checks.proofs.NodeLevels.{aside}
use Rattle.protox_checks.proofs.messages.check_set_aside.Goals as goal

pub returns : goal.returns
returns c =
    let reserved = reserved_nodes AMessageNumber c.as_slice.result.now in
    let extensions = flat_map extensions_nodes c.as_slice-2.result.now in
    let options = option_nodes (bodies_of c.as_slice-3.result.now) in
    on-ok c.check_statements.result
    (λ h. both-at c.args.errors.now c.check_reserved.new.errors c.check_statements.new.errors reserved (extensions ++ options) (aside c.args.ast.now)
    (λ i. reserved_nodes AMessageNumber (c.as_slice.ensures i) ++ (flat_map extensions_nodes (c.as_slice-2.ensures i) ++ option_nodes (bodies_of (c.as_slice-3.ensures i))))
    c.in_ok-check_reserved.ensures
    (both c.check_reserved.new.errors c.check_extensions.new.errors c.check_statements.new.errors extensions options c.in_ok-check_extensions.ensures h))
    c.check_statements.ensures
