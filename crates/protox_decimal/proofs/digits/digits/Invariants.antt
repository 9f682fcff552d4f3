use Rattle.std.proofs.Common.{◌≡◌, ◌+◌, ◌-◌, ◌*◌, ◌^◌, ◌<◌}
use Rattle.protox_decimal.proofs.digits.digits.Given as goal

abbrev pub invariant-loop-place : goal.invariant-loop-place
invariant-loop-place l =
    (l.fn.over * 10 ^ (l._place - 1) ≡ l.all * l.under + l.over) × (l.over < l.under) × (l.all < 10 ^ l._place)
