use Rattle.std.proofs.Common.{◌≡◌, ◌*◌, length}
use Rattle.protox_name_tree.proofs.slots.free_rows.Given as goal

abbrev pub invariant-loop-row : goal.invariant-loop-row
invariant-loop-row l = length l.slots.items ≡ l.row * 16
