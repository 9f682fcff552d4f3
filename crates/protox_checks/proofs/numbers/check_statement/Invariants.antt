use Rattle.std.proofs.Common.{◌++◌, flat_map, take}
use Rattle.protox_ast.specs.Options.{listed}
use Rattle.protox_checks.specs.Nodes.{AMessageNumber, option_nodes, range_nodes}
use Rattle.protox_checks.specs.inner.Walk.{Adds}
use Rattle.protox_checks.proofs.numbers.check_statement.Given as goal

abbrev pub invariant-loop-range : goal.invariant-loop-range
invariant-loop-range l = Adds l.initial.errors l.errors (flat_map (λ range. option_nodes (listed l.statement.options) ++ range_nodes AMessageNumber range) (take l.range-index l.range-items))
