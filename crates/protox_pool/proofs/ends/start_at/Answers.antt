use Rattle.std.proofs.Common.{◌≡◌, ◌-◌, ◌<◌, suc, length, arith, sym, ap, ◌∙◌}
use Rattle.protox_pool.specs.inner.Ends.{start_at}
use Rattle.protox_pool.proofs.Places.{start_behind}
use Rattle.protox_pool.proofs.ends.start_at.Goals as goal

pub returns : goal.returns
returns c =
    let some : c.args.index ≡ suc (c.args.index - 1) = omega (arith, c.if-index-eq0.false) in
    let within : c.args.index - 1 < length c.args.ends.now = omega (arith, c.requires, c.if-index-eq0.false) in
    sym (ap (start_at 0 c.args.ends.now) some ∙ start_behind 0 c.args.ends.now (c.args.index - 1) _ within)
