use Rattle.std.proofs.Common.{◌≡◌, ◌+◌, ◌-◌, ◌*◌, ◌%◌, ◌^◌, ◌<◌, ◌≢◌, get_or, refl, ap, ◌∙◌, arith}
use Rattle.std.proofs.lemmas.List.{get_or-set_other, length-set}
use Rattle.protox_decimal.specs.inner.Limbs.{room, value}
use Rattle.protox_decimal.proofs.Limbs.{value-none, value-more, value-written, value-all, unit-more, unit-all, below_more, subtracted, lent_back}
use Rattle.protox_decimal.proofs.big.Big.subtract.Goals as goal

pub loop-i-init : goal.loop-i-init
loop-i-init c = record {
  so_far = omega (arith, value-none);
  below = omega (arith, value-none);
  kept = c.self.told;
  rest = λ k h. refl;
  unit = omega arith;
}

pub loop-i-preserved : goal.loop-i-preserved
loop-i-preserved c =
    let l = c.loop-i in
    let first = c.self.inside.limbs in
    let other = c.other.inside.limbs in
    let limb = get_or first l.i 0 in
    let taken = get_or other l.i 0 in
    let left = c.from.result + l.unit + 4294967295 - c.from-in-loop-i.result in
    let w = (2 ^ 32) ^ l.i in
    let e : left + taken + 1 ≡ limb + l.unit + 2 ^ 32 = omega (arith, l.invariant.rest l.i (omega arith)) in
    let written = value-written l.self-inside.limbs l.i (left % 2 ^ 32) (omega arith) in
    let more = value-more first l.i (omega arith) in
    let more_other = value-more other l.i (omega arith) in
    record {
      so_far = rw (written, more, more_other, unit-more l.i) (subtracted _ _ l.unit limb taken left w _ l.invariant.so_far e);
      below = rw (written, unit-more l.i) (below_more w _ (left % 2 ^ 32) l.invariant.below (omega arith));
      kept = rw length-set l.invariant.kept;
      rest = λ k h. let no : k ≢ l.i = omega arith in rw get_or-set_other (l.invariant.rest k (omega arith));
      unit = omega arith;
    }

pub returns : goal.returns
returns c =
    let l = c.loop-i in
    let at : l.i ≡ 72 = omega arith in
    let limbs = l.self-inside.limbs in
    let new = value-all limbs l.i l.invariant.kept at in
    let old = value-all c.self.inside.limbs l.i c.self.told at ∙ c.self.view_is in
    let other = value-all c.other.inside.limbs l.i c.other.told at ∙ c.other.view_is in
    let w = unit-all l.i at in
    let e : value limbs + c.args.other.now + l.unit * room ≡ c.args.self.now + room = omega (arith, l.invariant.so_far, new, old, other, w, ap (λ x. l.unit * x) w) in
    let below : value limbs < room = omega (arith, l.invariant.below, new, w) in
    lent_back (value limbs) c.args.other.now c.args.self.now l.unit room e below c.requires l.invariant.unit
