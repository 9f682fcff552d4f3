use Rattle.std.proofs.Common.{arith}
use Rattle.protox_spans.specs.declared.span.Span.{Span}
use Rattle.protox_spans.specs.Spans.{first_met_in}
use Rattle.protox_spans.proofs.Searching.{more_found}
use Rattle.protox_spans.proofs.search.first_met.Goals as goal

abbrev none : Span
none = record { start = 0; end = 0 }

pub loop-span-preserved : goal.loop-span-preserved
loop-span-preserved c =
    more_found (first_met_in c.args.table.now) c.loop-span.made.items c.push.new.self.items
    c.args.spans.now c.loop-span.span-index none c.first_met.result c.in_ok-push.ensures.items
    c.loop-span.invariant c.first_met.ensures (omega arith)
