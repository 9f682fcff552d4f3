use Rattle.std.proofs.Common.{◌≡◌, ℕ, ◌<◌, ◌*◌, length, get_or, take, drop}
use Rattle.protox_spans.specs.declared.block.Block.{Block}
use Rattle.protox_spans.specs.inner.Blocks.{FitsBlock}
use Rattle.protox_spans.proofs.levels.Level.new.Given as goal

abbrev pub invariant-loop-rest : goal.invariant-loop-rest
invariant-loop-rest l = record {
  rest : l.rest ≡ drop (length l.blocks.items * l.width) l.spans;
  fit : (b : ℕ) (d : Block) → b < length l.blocks.items → FitsBlock (get_or l.blocks.items b d) (take l.width (drop (b * l.width) l.spans));
}

abbrev pub decreases-loop-rest : goal.decreases-loop-rest
decreases-loop-rest l = length l.rest
