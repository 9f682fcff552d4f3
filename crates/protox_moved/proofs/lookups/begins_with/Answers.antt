use Rattle.std.proofs.Common.{sym, ◌∙◌}
use Rattle.protox_moved.proofs.Starts.{start_taken}
use Rattle.protox_moved.proofs.lookups.begins_with.Goals as goal

pub returns : goal.returns
returns c = c.starts_with.ensures.value ∙ sym (start_taken c.args.front.now c.args.path.now)
