use Rattle.std.proofs.Common.{[], ◌∷◌}
use Rattle.protox_checks.specs.Nodes.{end_nodes}
use Rattle.protox_checks.specs.inner.Walk.{number_node}
use Rattle.protox_checks.proofs.Adding.{both, on-ok}
use Rattle.protox_checks.proofs.numbers.check_range.Goals as goal

pub returns : goal.returns
returns c =
    on-ok c.check_end.result
    (both c.args.errors.now c.check_bound.new.errors c.check_end.new.errors (number_node c.args.numbering c.args.range.now.start ∷ []) (end_nodes (number_node c.args.numbering) c.args.range.now.end) c.in_ok-check_bound.ensures)
    c.check_end.ensures
