use Rattle.std.proofs.Common.{ap, flat_map, sym, ◌∙◌}
use Rattle.protox_ast.specs.Ranges.{kind_ranges}
use Rattle.protox_checks.specs.Nodes.{range_nodes}
use Rattle.protox_checks.specs.inner.Walk.{number_node}
use Rattle.protox_checks.proofs.Adding.{on-ok, same}
use Rattle.protox_checks.proofs.numbers.check_kind_ranges.Goals as goal

pub returns-in-Ranges : goal.returns-in-Ranges
returns-in-Ranges c =
    on-ok c.check_ranges.result (same _ _ _ _ (ap (flat_map (range_nodes (number_node c.args.numbering))) (c.as_slice.ensures ∙ sym (ap kind_ranges c.in-Ranges.is)))) c.check_ranges.ensures
