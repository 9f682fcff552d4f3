use Rattle.std.proofs.Common.{◌≡◌, ◌+◌, ◌*◌, ◌%◌, ◌^◌, ◌<◌, ◌≢◌, get_or, refl, ap, ap₂, ◌∙◌, arith}
use Rattle.std.proofs.lemmas.List.{get_or-set_other, length-set}
use Rattle.protox_decimal.specs.inner.Limbs.{room, value}
use Rattle.protox_decimal.proofs.Limbs.{value-none, value-more, value-written, value-all, unit-more, unit-all, product_fits, multiplied, nothing_carried}
use Rattle.protox_decimal.proofs.big.Big.multiply.Goals as goal

pub loop-i-init : goal.loop-i-init
loop-i-init c = record { so_far = omega (arith, value-none, ap (λ v. v * c.args.by) value-none); kept = c.self.told; rest = λ k h. refl; small = omega arith }

pub overflow_add-product : goal.overflow_add-product
overflow_add-product c =
    let limb : c.from.result < 2 ^ 32 = omega arith in
    let by : c.from-in-loop-i.result < 2 ^ 32 = omega arith in
    omega (arith, product_fits c.from.result c.from-in-loop-i.result c.loop-i.carry limb by c.loop-i.invariant.small)

pub loop-i-preserved : goal.loop-i-preserved
loop-i-preserved c =
    let l = c.loop-i in
    let first = c.self.inside.limbs in
    let limb = get_or first l.i 0 in
    let product = c.from.result * c.from-in-loop-i.result + l.carry in
    let w = (2 ^ 32) ^ l.i in
    let e : product ≡ limb * c.args.by + l.carry = ap₂ (λ a b. a * b + l.carry) (c.from.ensures ∙ l.invariant.rest l.i (omega arith)) c.from-in-loop-i.ensures in
    let small : product < 2 ^ 64 = product_fits c.from.result c.from-in-loop-i.result l.carry (omega arith) (omega arith) l.invariant.small in
    let written = value-written l.self-inside.limbs l.i (product % 2 ^ 32) (omega arith) in
    let more = value-more first l.i (omega arith) in
    record {
      so_far = rw (written, more, unit-more l.i) (multiplied _ c.args.by l.carry limb product w _ l.invariant.so_far e);
      kept = rw length-set l.invariant.kept;
      rest = λ k h. let other : k ≢ l.i = omega arith in rw get_or-set_other (l.invariant.rest k (omega arith));
      small = omega arith;
    }

pub returns : goal.returns
returns c =
    let l = c.loop-i in
    let at : l.i ≡ 72 = omega arith in
    let new = value-all l.self-inside.limbs l.i l.invariant.kept at in
    let old = value-all c.self.inside.limbs l.i c.self.told at ∙ c.self.view_is in
    let w = unit-all l.i at in
    let e : value l.self-inside.limbs + l.carry * room ≡ c.args.self.now * c.args.by = omega (arith, l.invariant.so_far, new, ap (λ x. x * c.args.by) old, ap (λ x. l.carry * x) w) in
    nothing_carried (value l.self-inside.limbs) l.carry room (c.args.self.now * c.args.by) e c.requires
