use Rattle.std.proofs.Common.{◌≡◌, ◌^◌, get_or, refl, ap₂, ◌∙◌, arith}
use Rattle.std.specs.Ordering.{nat_cmp, ordering_then}
use Rattle.protox_decimal.proofs.Limbs.{value-none, value-more, value-all, unit-more, below_more, compared}
use Rattle.protox_decimal.proofs.big.Big.compare.Goals as goal

pub loop-i-init : goal.loop-i-init
loop-i-init c = record {
  order = rw value-none refl;
  mine = omega (arith, value-none);
  theirs = omega (arith, value-none);
}

pub loop-i-preserved : goal.loop-i-preserved
loop-i-preserved c =
    let l = c.loop-i in
    let mine = c.self.inside.limbs in
    let theirs = c.against.inside.limbs in
    let x = get_or mine l.i 0 in
    let y = get_or theirs l.i 0 in
    let w = (2 ^ 32) ^ l.i in
    let more = value-more mine l.i (omega arith) in
    let more_theirs = value-more theirs l.i (omega arith) in
    record {
      order = rw (more, more_theirs) (c.then-order.ensures ∙ ap₂ ordering_then c.cmp.ensures l.invariant.order ∙ compared w _ _ x y l.invariant.mine l.invariant.theirs);
      mine = rw (more, unit-more l.i) (below_more w _ x l.invariant.mine (omega arith));
      theirs = rw (more_theirs, unit-more l.i) (below_more w _ y l.invariant.theirs (omega arith));
    }

pub returns : goal.returns
returns c =
    let l = c.loop-i in
    let at : l.i ≡ 72 = omega arith in
    let mine = value-all c.self.inside.limbs l.i c.self.told at ∙ c.self.view_is in
    let theirs = value-all c.against.inside.limbs l.i c.against.told at ∙ c.against.view_is in
    l.invariant.order ∙ ap₂ nat_cmp mine theirs
