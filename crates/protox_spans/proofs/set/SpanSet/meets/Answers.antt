use Rattle.std.proofs.Common.{◌∙◌, ◌≡◌, ap, arith, false, nat_lt, rules}
use Rattle.std.specs.List.{list_any}
use Rattle.protox_spans.specs.Spans.{meets}
use Rattle.protox_spans.proofs.AnyMet.{any_counted, empty_meets_none}
use Rattle.protox_spans.proofs.Meeting.{met_counts}
use Rattle.protox_spans.proofs.set.SpanSet.meets.Goals as goal

pub returns-then-span : goal.returns-then-span
returns-then-span c =
    ap (nat_lt 0) (c.count_met.ensures ∙ met_counts c.self.inside.block c.self.inside.spans.items c.args.span (omega arith) c.self.invariant)
    ∙ any_counted (meets c.args.span) c.self.inside.spans.items
    ∙ ap (list_any (meets c.args.span)) c.self.view_is

pub returns-else-span : goal.returns-else-span
returns-else-span c =
    let none : nat_lt c.args.span.start c.args.span.end ≡ false = search (rules, c.if-span.false) in
    none ∙ empty_meets_none c.args.span c.args.self.now none
