use Rattle.std.proofs.Common.{◌≡◌, map, take}
use Rattle.protox_spans.specs.Spans.{first_met_in}
use Rattle.protox_spans.proofs.search.first_met.Given as goal

abbrev pub invariant-loop-span : goal.invariant-loop-span
invariant-loop-span l = l.made.items ≡ map (first_met_in l.table.spans.now) (take l.span-index l.spans)
