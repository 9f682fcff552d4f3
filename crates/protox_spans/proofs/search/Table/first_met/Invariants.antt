use Rattle.std.proofs.Common.{◌≡◌, ◌<◌, ◌+◌, ◌*◌, ◌^◌, length}
use Rattle.protox_spans.proofs.Pieces.{hits}
use Rattle.protox_spans.proofs.search.Table.first_met.Given as goal

abbrev pub invariant-loop-level : goal.invariant-loop-level
invariant-loop-level l = record {
  below : l.level < length l.self.levels.items;
  none : hits l.self.spans.now l.span (l.at * 2 ^ l.level) ≡ 0;
  some : 0 < hits l.self.spans.now l.span ((l.at + 1) * 2 ^ l.level);
}

abbrev pub decreases-loop-level : goal.decreases-loop-level
decreases-loop-level l = l.level
