-- What a checker adds.
use Rattle.std.specs.Prelude.{◌≡◌, List, ◌++◌}
use Rattle.protox_option_checks.specs.declared.fault.CheckFault.{CheckFault}
use Rattle.protox_option_checks.specs.declared.checker.Checker.{Checker}

-- These faults were added, and nothing else changed.
pub record Adds (old : Checker) (faults : List CheckFault) (new : Checker) : Type 0 where
  pub site : new.site.now ≡ old.site.now
  pub added : new.faults.items ≡ old.faults.items ++ faults
