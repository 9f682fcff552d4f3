use Rattle.std.proofs.Common.{◌≡◌, ◌∙◌, None, arith}
use Rattle.std.proofs.lemmas.Map.Text.{btree_map_updates_str}
use Rattle.protox_alike.specs.inner.Firsts.{first_in}
use Rattle.protox_alike.proofs.Firsts.{put_absent}
use Rattle.protox_alike.proofs.same.note.Goals as goal

pub returns-in_ok-insert : goal.returns-in_ok-insert
returns-in_ok-insert c = λ q.
    let none : first_in c.args.firsts.now c.args.name.now ≡ None = grind arith in
    btree_map_updates_str c.args.name.now c.args.firsts.now c.insert.new.self _ c.in_ok-insert.ensures.updates q
    ∙ put_absent (first_in c.args.firsts.now) c.args.name.now q c.args.index none
