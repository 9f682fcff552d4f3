use Rattle.std.proofs.Common.{◌≡◌, ◌+◌, ◌*◌, ◌^◌, ◌<◌, ◌≤◌, ℕ, length, take, get_or}
use Rattle.protox_decimal.specs.inner.Limbs.{value}
use Rattle.protox_decimal.proofs.big.Big.multiply.Given as goal

abbrev pub invariant-loop-i : goal.invariant-loop-i
invariant-loop-i l =
    let limbs = l.self-inside.limbs in
    let first = l.initial.self-inside.limbs in
    record {
      so_far : value (take l.i limbs) + l.carry * (2 ^ 32) ^ l.i ≡ value (take l.i first) * l.by;
      kept : length limbs ≡ 72;
      rest : (k : ℕ) → l.i ≤ k → get_or limbs k 0 ≡ get_or first k 0;
      small : l.carry < 2 ^ 32;
    }
