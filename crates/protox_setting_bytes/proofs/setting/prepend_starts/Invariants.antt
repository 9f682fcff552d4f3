use Rattle.protox_setting_bytes.proofs.Starts.{AreStarted}
use Rattle.protox_setting_bytes.proofs.setting.prepend_starts.Given as goal

abbrev pub invariant-loop-i : goal.invariant-loop-i
invariant-loop-i l = AreStarted l.steps l.fn.out l.fn.behind l.i l.out l.behind

abbrev pub decreases-loop-i : goal.decreases-loop-i
decreases-loop-i l = l.i
