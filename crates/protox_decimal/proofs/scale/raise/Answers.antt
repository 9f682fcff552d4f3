use Rattle.std.proofs.Common.{◌≤◌, ◌*◌, inr, ap, sym, ◌∙◌, arith, ltb-false}
use Rattle.protox_decimal.proofs.Powers.{power_below, ten_suc}
use Rattle.protox_decimal.proofs.scale.raise.Goals as goal

pub loop-under-preserved : goal.loop-under-preserved
loop-under-preserved c =
    let l = c.loop-under in
    let over = c.args.over.now in
    let under = c.args.under.now in
    let le : l.under ≤ over = ltb-false over l.under (sym c.is_below.ensures ∙ c.loop-under-test.true) in
    let more = power_below under l.count 350 (omega (arith, c.requires.small, l.invariant.0)) in (
      omega (arith, c.multiply.ensures, ap (λ x. under * x) (ten_suc l.count), l.invariant.0),
      inr (omega (arith, c.multiply.ensures)),
      omega (arith, c.multiply.ensures, l.invariant.2),
      omega arith,
    )
