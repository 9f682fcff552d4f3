use Rattle.std.proofs.Common.{length, sym, ap, ◌∙◌}
use Rattle.protox_pool.proofs.Places.{count_is}
use Rattle.protox_pool.proofs.pool.LocationPool.len.Goals as goal

pub returns : goal.returns
returns c =
    let inside = c.self.inside in
    ap length c.as_slice.ensures.value ∙ sym (count_is inside.numbers.items inside.comments.items 0 inside.ends.items)
    ∙ ap length c.self.view_is
