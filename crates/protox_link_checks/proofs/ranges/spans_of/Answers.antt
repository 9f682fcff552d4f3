use Rattle.std.proofs.Common.{◌≤◌, ◌∙◌, ap, arith, length, sym}
use Rattle.std.specs.List.{list_any}
use Rattle.protox_link_checks.specs.Ranges.{moved}
use Rattle.protox_link_checks.proofs.Ranging.{all_kept, more_kept}
use Rattle.protox_spans.specs.Spans.{meets}
use Rattle.protox_link_checks.proofs.ranges.spans_of.Goals as goal

pub loop-number-preserved : goal.loop-number-preserved
loop-number-preserved c =
    more_kept c.args.files.now c.args.symbols.now c.loop-number.number c.loop-number.made.items c.push_numbered.new.spans.items c.loop-number.invariant
    c.in_ok-push_numbered.ensures.added c.in_ok-push_numbered.ensures.small

pub returns : goal.returns
returns c n s small =
    let things = c.len-number-end.ensures.things in
    let end : length c.args.symbols.now.things ≤ c.loop-number.number = omega (arith, things) in
    all_kept c.args.files.now c.args.symbols.now c.loop-number.number c.loop-number.made.items end c.loop-number.invariant n s small

pub returns-then-not-any_ranges : goal.returns-then-not-any_ranges
returns-then-not-any_ranges c n s small =
    ap (list_any (meets (moved n s))) c.new-made.ensures.items
    ∙ sym (ap (list_any (meets s)) (c.any_ranges.ensures c.if-not-any_ranges.true c.args.symbols.now n))
