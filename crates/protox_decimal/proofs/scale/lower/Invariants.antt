use Rattle.std.proofs.Common.{◌≡◌, ◌-◌, ◌*◌, ◌^◌, ◌<◌, ◌≤◌}
use Rattle.protox_decimal.proofs.scale.lower.Given as goal

abbrev pub invariant-loop-over : goal.invariant-loop-over
invariant-loop-over l = (l.over ≡ l.fn.over * 10 ^ l.count) × (l.over < 10 * l.under) × (0 < l.over) × (l.count ≤ 350)

abbrev pub decreases-loop-over : goal.decreases-loop-over
decreases-loop-over l = l.under - l.over
