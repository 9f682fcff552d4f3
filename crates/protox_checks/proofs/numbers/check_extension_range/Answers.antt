use Rattle.protox_ast.specs.Options.{listed}
use Rattle.protox_checks.specs.Nodes.{AMessageNumber, option_nodes, range_nodes}
use Rattle.protox_checks.proofs.Adding.{both, on-ok}
use Rattle.protox_checks.proofs.numbers.check_extension_range.Goals as goal

pub returns : goal.returns
returns c =
    on-ok c.check_range.result
    (both c.args.errors.now c.check_listed.new.errors c.check_range.new.errors (option_nodes (listed c.args.statement.now.options)) (range_nodes AMessageNumber c.args.range.now) c.in_ok-check_listed.ensures)
    c.check_range.ensures
