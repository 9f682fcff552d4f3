use Rattle.std.proofs.Common.{ap, ◌∙◌, arith}
use Rattle.protox_names.specs.Names.{is_one_part}
use Rattle.protox_names.proofs.Dots.{cut_there, front_before, no_dot, one_part_before, range_before, starts_behind, starts_there}
use Rattle.protox_names.proofs.split_front.Goals as goal

pub returns-then-index-name-clause-none : goal.returns-then-index-name-clause-none
returns-then-index-name-clause-none c =
    no_dot c.args.name.now c.first_dot-index.result c.first_dot-index.ensures c.if-index-name.true

pub range-requires-clause-end_boundary : goal.range-requires-clause-end_boundary
range-requires-clause-end_boundary c =
    starts_there c.args.name.now c.first_dot-index.result c.first_dot-index.ensures (omega (arith, c.first_dot-index.ensures.within, c.if-index-name.false))

pub range_from-requires : goal.range_from-requires
range_from-requires c some =
    starts_behind c.args.name.now c.first_dot-index.result c.utf8.name c.first_dot-index.ensures (omega (arith, c.first_dot-index.ensures.within, c.if-index-name.false))

pub returns-clause-front : goal.returns-clause-front
returns-clause-front c =
    range_before c.args.name.now c.range.result.now c.first_dot-index.result c.range.ensures.value ∙ front_before c.args.name.now c.first_dot-index.result c.first_dot-index.ensures

pub returns-clause-one_part : goal.returns-clause-one_part
returns-clause-one_part c =
    ap is_one_part (range_before c.args.name.now c.range.result.now c.first_dot-index.result c.range.ensures.value) ∙ one_part_before c.args.name.now c.first_dot-index.result c.first_dot-index.ensures

pub returns-clause-whole : goal.returns-clause-whole
returns-clause-whole c =
    rw (range_before c.args.name.now c.range.result.now c.first_dot-index.result c.range.ensures.value, c.range_from.ensures.value)
    (cut_there c.args.name.now c.first_dot-index.result c.first_dot-index.ensures (omega (arith, c.first_dot-index.ensures.within, c.if-index-name.false)))
