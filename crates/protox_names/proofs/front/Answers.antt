use Rattle.std.proofs.Common.{◌∙◌}
use Rattle.protox_names.proofs.Dots.{front_before, front_ends, range_before}
use Rattle.protox_names.proofs.front.Goals as goal

pub range-requires-clause-end_boundary : goal.range-requires-clause-end_boundary
range-requires-clause-end_boundary c = front_ends c.args.name.now c.first_dot.result c.first_dot.ensures

pub returns : goal.returns
returns c = range_before c.args.name.now c.range.result.now c.first_dot.result c.range.ensures.value ∙ front_before c.args.name.now c.first_dot.result c.first_dot.ensures
