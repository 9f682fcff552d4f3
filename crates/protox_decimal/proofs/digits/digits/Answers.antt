use Rattle.std.proofs.Common.{◌*◌, ◌≤◌, ap, sym, ◌∙◌, arith}
use Rattle.protox_decimal.proofs.Powers.{more_digits, few_digits, ten_suc, ten_after}
use Rattle.protox_decimal.proofs.digits.digits.Goals as goal

pub overflow_mul-all : goal.overflow_mul-all
overflow_mul-all c =
    let l = c.loop-place in
    let k : l._place ≤ 16 = omega (arith, c.requires.few) in
    let b = few_digits l.all l._place l.invariant.2 k in
    omega arith

pub overflow_add-all : goal.overflow_add-all
overflow_add-all c =
    let l = c.loop-place in
    let k : l._place ≤ 16 = omega (arith, c.requires.few) in
    let b = few_digits l.all l._place l.invariant.2 k in
    omega (arith, c.digit.ensures.one)

pub loop-place-preserved : goal.loop-place-preserved
loop-place-preserved c =
    let l = c.loop-place in
    let e = c.digit.ensures in (
      ap (λ x. c.args.over.now * x) (ten_after l._place l.auto._place) ∙ more_digits _ _ _ _ _ _ _ l.invariant.0 (sym c.multiply.ensures ∙ e.parts),
      e.rest,
      omega (arith, e.one, l.invariant.2, ten_suc l._place),
    )
