use Rattle.std.proofs.Common.{◌≡◌, ◌+◌, ◌≤◌, slice_index_or, slice_set, arith, sym, ap, subst, ◌∙◌}
use Rattle.std.proofs.lemmas.List.{get_or_default}
use Rattle.std.proofs.lemmas.List.Edits.{map_over_more}
use Rattle.protox_pool.specs.declared.ends.Ends.{Ends}
use Rattle.protox_pool.specs.inner.Ends.{moved}
use Rattle.protox_pool.proofs.OneBehindOther.{at_turn}
use Rattle.protox_pool.proofs.Places.{bounds, comments_within}
use Rattle.protox_pool.proofs.joined.move_ends.Goals as goal

abbrev none : Ends
none = record { path = 0; span = 0; comments = 0 }

pub moved-requires-clause-order : goal.moved-requires-clause-order
moved-requires-clause-order c =
    let ends = c.args.ends.now in
    let index = c.loop-index.index in
    let at = at_turn (moved c.args.numbers c.args.comments) ends c.loop-index.ends index none c.loop-index-test.true c.loop-index.invariant in
    let r = c.requires in
    subst (λ (e : Ends). e.path ≤ e.span) (sym at) (bounds r.0 r.1 0 ends r.2 index none c.loop-index-test.true).1

pub moved-requires-clause-span : goal.moved-requires-clause-span
moved-requires-clause-span c =
    let ends = c.args.ends.now in
    let index = c.loop-index.index in
    let at = at_turn (moved c.args.numbers c.args.comments) ends c.loop-index.ends index none c.loop-index-test.true c.loop-index.invariant in
    let r = c.requires in
    let within = (bounds r.0 r.1 0 ends r.2 index none c.loop-index-test.true).2 in
    subst (λ (e : Ends). e.span + c.args.numbers ≤ 4294967295) (sym at) (omega (arith, within, r.3))

pub moved-requires-clause-comments : goal.moved-requires-clause-comments
moved-requires-clause-comments c =
    let ends = c.args.ends.now in
    let index = c.loop-index.index in
    let at = at_turn (moved c.args.numbers c.args.comments) ends c.loop-index.ends index none c.loop-index-test.true c.loop-index.invariant in
    let r = c.requires in
    let within = comments_within r.0 r.1 0 ends r.2 index none c.loop-index-test.true in
    subst (λ (e : Ends). e.comments + c.args.comments ≤ 4294967295) (sym at) (omega (arith, within, r.4))

pub loop-index-preserved : goal.loop-index-preserved
loop-index-preserved c =
    let ys = c.loop-index.ends in
    let index = c.loop-index.index in
    ap (λ (e : Ends). slice_set ys index e) c.moved.ensures
    ∙ map_over_more (moved c.args.numbers c.args.comments) c.args.ends.now ys index (slice_index_or ys index none)
    c.loop-index-test.true c.loop-index.invariant
    (get_or_default ys index none (slice_index_or ys index none) (omega (arith, c.loop-index-test.true, c.loop-index.auto.ends)))
