use Rattle.std.proofs.Common.{◌≡◌, ℕ, ◌<◌, ◌-◌, ◌^◌, length, get_or}
use Rattle.protox_spans.specs.declared.levels.Level.{Level}
use Rattle.protox_spans.specs.inner.Blocks.{IsLevel}
use Rattle.protox_spans.proofs.levels.levels.Given as goal

abbrev pub invariant-loop-width : goal.invariant-loop-width
invariant-loop-width l = record {
  width : l.width ≡ 2 ^ length l.made.items;
  some : 0 < l.width;
  each : (k : ℕ) (d : Level) → k < length l.made.items → IsLevel (get_or l.made.items k d) (2 ^ k) l.spans;
}

abbrev pub decreases-loop-width : goal.decreases-loop-width
decreases-loop-width l = length l.spans - l.width
