use Rattle.std.proofs.Common.{◌∙◌}
use Rattle.protox_set_paths.proofs.Order.{begins_taken}
use Rattle.protox_set_paths.proofs.set_paths.begins_with.Goals as goal

pub returns : goal.returns
returns c = c.starts_with.ensures.value ∙ begins_taken c.args.front.now c.args.path.now
