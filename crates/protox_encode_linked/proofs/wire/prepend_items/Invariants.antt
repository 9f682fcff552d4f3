use Rattle.std.proofs.Common.{◌≡◌, ◌≤◌, ◌++◌, length, drop}
use Rattle.protox_encode.specs.Wire.{part}
use Rattle.protox_encode_linked.specs.Linked.{each_from}
use Rattle.protox_encode_linked.proofs.wire.prepend_items.Given as goal

abbrev pub invariant-loop-i : goal.invariant-loop-i
invariant-loop-i g l = record {
  within : l.i ≤ length l.items;
  behind : l.out ≡ part l.number (each_from (g.M.Linked.parts l.set) l.fn.path.items l.i (drop l.i l.items)) ++ l.fn.out;
  back : l.path.items ≡ l.fn.path.items;
}

abbrev pub decreases-loop-i : goal.decreases-loop-i
decreases-loop-i g l = l.i
