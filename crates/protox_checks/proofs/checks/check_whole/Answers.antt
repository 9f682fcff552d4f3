use Rattle.std.proofs.Common.{◌++◌, flat_map}
use Rattle.protox_ast.specs.Options.{bodies_of}
use Rattle.protox_checks.specs.Nodes.{file_nodes, item_nodes, option_nodes}
use Rattle.protox_checks.proofs.Adding.{in-both-at, on-ok}
use Rattle.protox_checks.proofs.checks.check_whole.Goals as goal

pub returns : goal.returns
returns c =
    on-ok c.check_statements.result
    (λ h. in-both-at c.args.ast.now.syntax c.args.errors.now c.check_items.new.errors c.check_statements.new.errors (flat_map item_nodes c.as_slice.result.now) (option_nodes (bodies_of c.as_slice-2.result.now)) (file_nodes c.args.ast.now)
    (λ i. flat_map item_nodes (c.as_slice.ensures i) ++ option_nodes (bodies_of (c.as_slice-2.ensures i)))
    c.in_ok-check_items.ensures (h c.args.ast.now.syntax))
    c.check_statements.ensures
