use Rattle.protox_message_bytes.proofs.Runs.{Progress}
use Rattle.protox_message_bytes.proofs.field.prepend_all.Given as goal

abbrev pub invariant-loop-i : goal.invariant-loop-i
invariant-loop-i l = Progress l.fields l.fn.out l.i l.out l.behind

abbrev pub decreases-loop-i : goal.decreases-loop-i
decreases-loop-i l = l.i
