use Rattle.std.proofs.Common.{length}
use Rattle.protolink_run.proofs.statements.of_message.Given as goal

-- the path gets shorter
abbrev pub decreases-loop-path : goal.decreases-loop-path
decreases-loop-path l = length l.path
