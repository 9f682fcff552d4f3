use Rattle.std.proofs.Common.{◌≡◌, ◌+◌, ◌*◌, ◌^◌, ◌<◌, ◌≤◌, ℕ, length, take, get_or}
use Rattle.protox_decimal.specs.inner.Limbs.{value}
use Rattle.protox_decimal.proofs.big.Big.subtract.Given as goal

abbrev pub invariant-loop-i : goal.invariant-loop-i
invariant-loop-i l =
    let limbs = l.self-inside.limbs in
    let first = l.initial.self-inside.limbs in
    record {
      so_far : value (take l.i limbs) + value (take l.i l.other-inside.limbs) + l.unit * (2 ^ 32) ^ l.i ≡ value (take l.i first) + (2 ^ 32) ^ l.i;
      below : value (take l.i limbs) < (2 ^ 32) ^ l.i;
      kept : length limbs ≡ 72;
      rest : (k : ℕ) → l.i ≤ k → get_or limbs k 0 ≡ get_or first k 0;
      unit : l.unit ≤ 1;
    }
