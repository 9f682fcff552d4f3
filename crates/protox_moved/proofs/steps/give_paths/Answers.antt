use Rattle.std.proofs.Common.{arith, ap, sym, ◌∙◌}
use Rattle.std.proofs.Math.ListN.{set}
use Rattle.std.proofs.lemmas.List.Edits.{map_over_more}
use Rattle.protox_moved.specs.Moved.{moved}
use Rattle.protox_moved.proofs.steps.give_paths.Goals as goal

pub loop-location-preserved : goal.loop-location-preserved
loop-location-preserved c =
    ap (λ l. set c.loop-location.locations c.loop-location.location-index l) (c.in_ok-give_path.ensures ∙ ap (moved c.args.moves.now) (sym c.location-item.is))
    ∙ map_over_more (moved c.args.moves.now) c.args.locations.now c.loop-location.locations
    c.loop-location.location-index c.location-item.result (omega arith) c.loop-location.invariant
    c.location-item.is
