use Rattle.std.proofs.Common.{◌≡◌, ◌++◌, drop}
use Rattle.protox_setting_bytes.specs.inner.Ends.{ends_of}
use Rattle.protox_setting_bytes.proofs.setting.prepend_ends.Given as goal

-- those of the fields that are left stand in front of those that are written
abbrev pub invariant-loop-step : goal.invariant-loop-step
invariant-loop-step l = ends_of (drop l.step-index l.steps) ++ l.out ≡ ends_of l.steps ++ l.fn.out
