use Rattle.std.proofs.Common.{◌≡◌, take}
use Rattle.std.specs.Prelude.{All}
use Rattle.protoparse_run.specs.Outcomes.{IsAccepted}
use Rattle.protoparse_run.proofs.handle_all.Given as goal

abbrev pub invariant-loop-task : goal.invariant-loop-task
invariant-loop-task g l = l.tally.refused ≡ 0 → l.tally.failed ≡ 0 → All (IsAccepted g.H.Host.holds l.host) (take l.task-index l.tasks)
