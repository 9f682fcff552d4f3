use Rattle.std.proofs.Common.{◌≡◌, ◌∙◌, None, arith}
use Rattle.std.proofs.lemmas.Map.Text.{btree_map_updates_str}
use Rattle.protox_imports.specs.inner.Numbers.{number_in}
use Rattle.protox_imports.proofs.Numbers.{put_absent}
use Rattle.protox_imports.proofs.names.note.Goals as goal

pub returns-in_ok-insert : goal.returns-in_ok-insert
returns-in_ok-insert c = λ q.
    let none : number_in c.args.numbers.now c.args.name.now ≡ None = grind arith in
    btree_map_updates_str c.args.name.now c.args.numbers.now c.insert.new.self _ c.in_ok-insert.ensures.updates q
    ∙ put_absent (number_in c.args.numbers.now) c.args.name.now q c.args.number none
