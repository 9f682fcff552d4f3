use Rattle.std.proofs.Common.{[], ◌∷◌}
use Rattle.std.proofs.lemmas.Result.{on_ok_weaker}
use Rattle.protox_interpret.proofs.Entering.{paths_added}
use Rattle.protox_interpret.specs.Settings.{paths_from}
use Rattle.protox_interpret.proofs.work.add_paths.Goals as goal

pub returns : goal.returns
returns c some =
    on_ok_weaker c.add_inside.result
    (paths_added c.args.path.now (paths_from (c.args.path.now ∷ []) c.args.inside.now) c.args.set.now c.add_path.new.set c.add_inside.new.set
    (c.in_ok-place.ensures.set some))
    (c.add_inside.ensures c.args.path.now c.in_ok-place.ensures.place)
