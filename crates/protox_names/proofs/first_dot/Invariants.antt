use Rattle.std.proofs.Common.{◌≡◌, ◌≤◌, ◌<◌, ◌-◌, ℕ, false, get_or, length}
use Rattle.protox_names.specs.Names.{is_dot}
use Rattle.protox_names.proofs.first_dot.Given as goal

-- no byte in front of the index is a dot
abbrev pub invariant-loop-index : goal.invariant-loop-index
invariant-loop-index l = record {
  within : l.index ≤ length l.name;
  before : (i : ℕ) → i < l.index → is_dot (get_or l.name i 0) ≡ false;
}

abbrev pub decreases-loop-index : goal.decreases-loop-index
decreases-loop-index l = length l.name - l.index
