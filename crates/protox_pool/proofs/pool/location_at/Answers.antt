use Rattle.std.proofs.Common.{slice_index_or, slice_range, Some, arith, ap, sym, ◌∙◌}
use Rattle.std.specs.Option.{option_copied}
use Rattle.protox_pool.specs.Pool.{location}
use Rattle.protox_pool.specs.declared.ends.Ends.{Ends}
use Rattle.protox_pool.specs.inner.Ends.{start_at}
use Rattle.protox_pool.proofs.Places.{found, not_found}
use Rattle.protox_pool.proofs.pool.location_at.Goals as goal

pub returns-then-index-ends : goal.returns-then-index-ends
returns-then-index-ends c =
    sym (not_found c.args.numbers.now c.args.comments.now c.args.ends.now c.args.index (omega (arith, c.if-index-ends.true)))

pub returns : goal.returns
returns c =
    let numbers = c.args.numbers.now in
    let ends = c.args.ends.now in
    let index = c.args.index in
    let none : Ends = record { path = 0; span = 0; comments = 0 } in
    let end = slice_index_or ends index none in
    let held = option_copied c.comments_at.result in
    ap (λ p. Some (location p c.part-2.result.now held))
    (c.part.ensures ∙ ap (λ s. slice_range numbers s end.path) c.start_at-start.ensures)
    ∙ ap (λ s. Some (location (slice_range numbers (start_at 0 ends index) end.path) s held)) c.part-2.ensures
    ∙ ap (λ h. Some (location (slice_range numbers (start_at 0 ends index) end.path) (slice_range numbers end.path end.span) h))
    c.comments_at.ensures
    ∙ sym (found numbers c.args.comments.now 0 ends index none (omega (arith, c.if-index-ends.false)))
