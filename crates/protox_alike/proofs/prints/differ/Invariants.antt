use Rattle.std.proofs.Common.{◌≡◌, ◌<◌, ℕ, get_or}
use Rattle.protox_alike.proofs.prints.differ.Given as goal

-- no two of those before are equal
abbrev pub invariant-loop-part : goal.invariant-loop-part
invariant-loop-part l = (i j : ℕ) → i < j → j < l.part → get_or l.prints i 0 ≡ get_or l.prints j 0 → ⊥
