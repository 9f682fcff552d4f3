use Rattle.std.proofs.Common.{◌≡◌, ◌<◌, ◌+◌, ℕ, Some, length}
use Rattle.protox_name_tree.specs.Slots.{held, window_start}
use Rattle.protox_name_tree.proofs.slots.Slots.search.Given as goal

-- no slot so far holds the number of what is looked for
abbrev pub invariant-loop-step : goal.invariant-loop-step
invariant-loop-step g l =
    (step n : ℕ) → step < l.step → held l.self (window_start (length l.self) l.mixed + step) ≡ Some n → g.S.Sought.is_at l.sought n → ⊥
