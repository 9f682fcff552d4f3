use Rattle.std.proofs.Common.{◌-◌, ◌*◌, ◌^◌, ◌++◌, take, drop, ap, ◌∙◌}
use Rattle.protox_decimal.specs.inner.Limbs.{value}
use Rattle.protox_decimal.proofs.Limbs.{moved}
use Rattle.protox_decimal.proofs.big.Big.move_up.Goals as goal

pub returns : goal.returns
returns c =
    let limbs = c.self.inside.limbs in
    let places = c.args.places in
    let r = c.rotate_right.ensures.after in
    ap value (r ∙ ap (λ n. drop (n - places) limbs ++ take (n - places) limbs) c.self.told)
    ∙ moved limbs places c.self.told c.requires.places (rw c.self.view_is c.requires.room)
    ∙ ap (λ n. n * (2 ^ 32) ^ places) c.self.view_is
