use Rattle.std.proofs.Common.{subst, sym, ◌∙◌}
use Rattle.protox_places.specs.Order.{AreByPath}
use Rattle.protox_moved.proofs.SortedList.{after-are-by-path}
use Rattle.protox_moved.proofs.move_locations.Goals as goal

pub returns-in-Ok-clause-sorted : goal.returns-in-Ok-clause-sorted
returns-in-Ok-clause-sorted c =
    subst AreByPath (sym (c.from_vec.ensures ∙ c.in-Ok.ensures))
    (after-are-by-path c.args.moves.items c.into_vec-locations.result.items)
