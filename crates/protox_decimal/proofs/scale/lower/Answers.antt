use Rattle.std.proofs.Common.{◌<◌, ◌*◌, ap, sym, ◌∙◌, arith, ltb-true}
use Rattle.protox_decimal.proofs.Powers.{power_below, ten_suc}
use Rattle.protox_decimal.proofs.scale.lower.Goals as goal

pub loop-over-preserved : goal.loop-over-preserved
loop-over-preserved c =
    let l = c.loop-over in
    let over = c.args.over.now in
    let under = c.args.under.now in
    let lt : l.over < under = ltb-true l.over under (sym c.is_below.ensures ∙ c.loop-over-test.true) in
    let more = power_below over l.count 350 (omega (arith, c.requires.large, l.invariant.0)) in (
      omega (arith, c.multiply.ensures, ap (λ x. over * x) (ten_suc l.count), l.invariant.0),
      omega (arith, c.multiply.ensures),
      omega (arith, c.multiply.ensures, l.invariant.2),
      omega arith,
    )
