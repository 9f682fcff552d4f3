use Rattle.protox_moved.proofs.Finding.{found_there}
use Rattle.protox_moved.proofs.lookups.find_move.Goals as goal

pub returns : goal.returns
returns c =
    let count = c.count_before-at in
    found_there c.args.moves.now c.args.path.now count.result _ c.requires
    count.ensures.before count.ensures.from
    c.with_start.ensures.some c.with_start.ensures.none
