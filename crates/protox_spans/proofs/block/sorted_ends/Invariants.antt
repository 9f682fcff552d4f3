use Rattle.std.proofs.Common.{take}
use Rattle.protox_spans.specs.inner.Blocks.{Counts}
use Rattle.protox_spans.proofs.block.sorted_ends.Given as goal

abbrev pub invariant-loop-span : goal.invariant-loop-span
invariant-loop-span l = Counts l.made.items (λ s. s.end) (take l.span-index l.spans)
