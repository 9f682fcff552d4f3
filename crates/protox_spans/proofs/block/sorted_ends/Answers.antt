use Rattle.std.proofs.Common.{◌≡◌, ◌∙◌, ap, arith}
use Rattle.std.proofs.lemmas.List.Sorted.{IsNonDecreasingBy-from_sort}
use Rattle.protox_spans.specs.declared.span.Span.{Span}
use Rattle.protox_spans.proofs.Meeting.{all_counted, one_more, one_without, sorted_counts}
use Rattle.protox_spans.proofs.block.sorted_ends.Goals as goal
use Rattle.protox_spans.proofs.block.sorted_ends.Goals.{then-span+in_ok-push, else-span}

abbrev none : Span
none = record { start = 0; end = 0 }

pub loop-span-preserved : goal.loop-span-preserved
loop-span-preserved c = elim c.if-span.branch [
  | then-span+in_ok-push w ↦
      one_more (λ s. s.end) c.args.spans.now c.loop-span.span-index none (omega arith)
      c.loop-span.made.items c.loop-span.invariant c.if-span.made.items w.if-span.true
      (ap (λ m. m.items) w.made-is ∙ w.in_ok-push.ensures.items)
  | else-span w ↦
      let is : c.if-span.made.items ≡ c.loop-span.made.items = ap (λ m. m.items) w.made-is in
      rw is (one_without (λ s. s.end) c.args.spans.now c.loop-span.span-index none (omega arith)
      c.loop-span.made.items c.loop-span.invariant w.if-span.false)
]

pub returns-clause-up : goal.returns-clause-up
returns-clause-up c = IsNonDecreasingBy-from_sort (λ x. x) _ c.in_ok-sort.ensures.sorted

pub returns-clause-counts : goal.returns-clause-counts
returns-clause-counts c =
    sorted_counts c.loop-span.made.items _ (λ s. s.end) c.args.spans.now c.in_ok-sort.ensures.permutation
    (all_counted c.loop-span.made.items (λ s. s.end) c.args.spans.now c.loop-span.span-index (omega arith) c.loop-span.invariant)
