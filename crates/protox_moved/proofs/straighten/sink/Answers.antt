use Rattle.std.proofs.Common.{◌≡◌, ◌-◌, suc, arith, sym, ◌∙◌}
use Rattle.protox_moved.proofs.Neighbours.{flipped_at, stable_through}
use Rattle.protox_moved.proofs.straighten.sink.Goals as goal

pub loop-preserved : goal.loop-preserved
loop-preserved c =
    let old = c.args.locations.now in
    let xs = c.loop.locations in
    let at = c.loop.at in
    let next : suc (at - 1) ≡ at = omega (arith, c.if-at-eq0.false) in
    let step = flipped_at xs c.swap.new.self (at - 1) at c.index-locations-at.result c.index-locations-at-else-at-eq0.result
    next c.loop.invariant.2 c.index-locations-at.is c.index-locations-at-else-at-eq0.is
    (sym c.comes_before.ensures ∙ c.if-not-comes_before.false) c.swap.ensures.by_index.3 in
    (stable_through old xs c.swap.new.self c.loop.invariant.0 step, c.swap.ensures.len ∙ c.loop.invariant.1, omega (arith, c.swap.ensures.len, c.loop.invariant.2))
