use Rattle.std.proofs.Common.{◌≡◌, ◌^◌, ◌<◌, take}
use Rattle.std.specs.Ordering.{nat_cmp}
use Rattle.protox_decimal.specs.inner.Limbs.{value}
use Rattle.protox_decimal.proofs.big.Big.compare.Given as goal

abbrev pub invariant-loop-i : goal.invariant-loop-i
invariant-loop-i l =
    let mine = value (take l.i l.self-inside.limbs) in
    let theirs = value (take l.i l.against-inside.limbs) in
    record {
      order : l.order ≡ nat_cmp mine theirs;
      mine : mine < (2 ^ 32) ^ l.i;
      theirs : theirs < (2 ^ 32) ^ l.i;
    }
