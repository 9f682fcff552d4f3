use Rattle.protox_ast.specs.Options.{json_name_of, options_left}
use Rattle.protox_checks.specs.Nodes.{json_name_nodes, option_nodes}
use Rattle.protox_checks.proofs.Adding.{both, on-ok}
use Rattle.protox_checks.proofs.options.check_field_options.Goals as goal

pub returns : goal.returns
returns c =
    on-ok c.check_options_left.result
    (both c.args.errors.now c.check_json_name.new.errors c.check_options_left.new.errors (json_name_nodes (json_name_of c.args.list.now)) (option_nodes (options_left c.args.list.now)) c.in_ok-check_json_name.ensures)
    c.check_options_left.ensures
