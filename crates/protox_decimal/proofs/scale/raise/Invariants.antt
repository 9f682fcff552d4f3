use Rattle.std.proofs.Common.{◌≡◌, ◌+◌, ◌-◌, ◌*◌, ◌^◌, ◌<◌, ◌≤◌, ◌⊎◌}
use Rattle.protox_decimal.proofs.scale.raise.Given as goal

abbrev pub invariant-loop-under : goal.invariant-loop-under
invariant-loop-under l =
    (l.under ≡ l.fn.under * 10 ^ l.count) × ((l.count ≡ 0) ⊎ (l.under ≤ 10 * l.over)) × (0 < l.under) × (l.count ≤ 350)

abbrev pub decreases-loop-under : goal.decreases-loop-under
decreases-loop-under l = l.over + 1 - l.under
